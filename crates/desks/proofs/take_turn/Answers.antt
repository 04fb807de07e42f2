use Rattle.std.proofs.Common.{◌≡◌, sym, ◌∙◌, Ok, Err, rules, refl}
use lib.Seq.{length-take-le}
use Rattle.text.proofs.Streams.{line_few}
use Rattle.listing.proofs.Listings.{feeds_none}
use Rattle.ends.specs.Ends.{read_went}
use Rattle.ends.proofs.Reasons.{read, prints, stands}
use Rattle.desks.proofs.take_turn.Goals as goal

pub returns-in_err-n : goal.returns-in_err-n
returns-in_err-n g c =
    let went : read_went c.args.done ≡ Err c.in_err-n.field-0.0 = sym c.read_went.ensures ∙ c.in_err-n.was in
    let told : c.from_residual.result ≡ Err c.in_err-n.field-0.0 = search rules in
    rw went (0, feeds_none _ _ _ (line_few c.args.pending.now), rw told (stands _ _ _ _ (λ e. absurd (cc e))), λ _. refl)

pub returns : goal.returns
returns g c =
    let (used, feeds, writes, whole) = c.answer_piece.ensures in
    let went : read_went c.args.done ≡ Ok c.in_ok-n.n = sym c.read_went.ensures ∙ c.in_ok-n.was in
    let fits = read _ _ _ c.requires went in
    rw went (used, feeds, prints _ _ _ _ _ _ refl writes, λ e. whole e ∙ length-take-le _ _ fits)
