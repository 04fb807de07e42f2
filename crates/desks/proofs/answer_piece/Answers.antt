use Rattle.std.proofs.Common.{◌≡◌, ℕ, ◌+◌, ◌-◌, sym, ◌∙◌, arith, Err, List, length, take, drop, length-drop, rules}
use Rattle.std.proofs.lemmas.List.{take_all}
use Rattle.text.specs.Stream.{text_of}
use Rattle.text.proofs.Writing.{written}
use Rattle.text.proofs.Streams.{line_few}
use Rattle.listing.proofs.Listings.{feeds_none, feeds_on, text_on}
use Rattle.ends.proofs.Reasons.{holds_none, joins, whole, all, behind}
use Rattle.desks.proofs.answer_piece.Goals as goal

-- the rest of a piece is what lies behind the bytes that are taken in
rest : (n : ℕ) (xs : List ℕ) → take (length xs - n) (drop n xs) ≡ drop n xs
rest n xs = take_all (length xs - n) (drop n xs) (simp length-drop (omega arith))

pub loop-at-init : goal.loop-at-init
unfolding text_of
loop-at-init g c = record { feeds = feeds_none _ _ _ (line_few c.args.pending.now); wrote = holds_none _ }

pub loop-at-preserved : goal.loop-at-preserved
loop-at-preserved g c =
    let h = c.loop-at in
    let v = h.invariant in
    let xs = c.args.piece.now in
    let f = rw (rest h.at xs) at c.feed-fed.ensures.feeds in
    let w = rw (written c.feed-fed.ensures.wrote, rest h.at xs) at c.write_out.ensures in
    record {
      feeds = feeds_on _ xs h.at _ _ v.feeds _ _ _ f;
      wrote =
          rw (text_on _ xs h.at _ _ v.feeds c.feed-fed.result.used)
          (joins _ _ _ _ _ v.wrote (whole _ _ _ _ c.in_ok-write_out.was w));
    }

pub returns-in_err-write_out : goal.returns-in_err-write_out
returns-in_err-write_out g c =
    let h = c.loop-at in
    let v = h.invariant in
    let xs = c.args.piece.now in
    let f = rw (rest h.at xs) at c.feed-fed.ensures.feeds in
    let told : c.from_residual.result ≡ Err c.in_err-write_out.field-0.0 = search rules in
    let same : c.from_residual.result ≡ c.write_out.result = told ∙ sym c.in_err-write_out.was in
    let w = rw (written c.feed-fed.ensures.wrote, rest h.at xs, ← same) at c.write_out.ensures in (
      h.at + c.feed-fed.result.used,
      feeds_on _ xs h.at _ _ v.feeds _ _ _ f,
      rw (text_on _ xs h.at _ _ v.feeds c.feed-fed.result.used) (behind _ _ _ _ _ _ v.wrote w),
      λ e. absurd (cc (told, e)),
    )

pub returns : goal.returns
returns g c =
    let h = c.loop-at in
    (h.at, h.invariant.feeds, all _ _ _ h.invariant.wrote, λ _. omega (arith, h.invariant.feeds.within))
