use Rattle.std.proofs.Common.{◌≡◌, ◌&&◌, Bool, true, false, sym, ◌∙◌, [], List, ℕ}
use Rattle.tools.specs.Tests.{all_of}
use Rattle.rules.specs.declared.SetupNumbers.{SetupNumbers}
use Rattle.rules.specs.Setups.{setup_with, in_range, related, limited, permits}
use Rattle.setups.proofs.permits.Goals as goal

joined : (a b c t r : Bool) → t ≡ (a && b) → r ≡ (t && c) → r ≡ (a && (b && c))
joined true b c t r e h = cc
joined false b c t r e h = cc

-- the numbers are asked first, and they are the same beside any limits
by_two : (s : SetupNumbers) (l : List ℕ) (t r : Bool) → t ≡ (in_range (setup_with s []) && related (setup_with s []))
    → r ≡ (t && limited (setup_with s l)) → r ≡ permits (setup_with s l)
unfolding permits all_of in_range related
by_two s l t r e h = joined (in_range (setup_with s [])) (related (setup_with s [])) (limited (setup_with s l)) t r e h

pub returns-then-numbers_ok : goal.returns-then-numbers_ok
returns-then-numbers_ok c =
    let x = c.args.setup in by_two x.numbers x.limits.now true _ (sym c.if-numbers_ok.true ∙ c.numbers_ok.ensures) c.limited.ensures

pub returns-else-numbers_ok : goal.returns-else-numbers_ok
returns-else-numbers_ok c =
    let x = c.args.setup in by_two x.numbers x.limits.now false _ (sym c.if-numbers_ok.false ∙ c.numbers_ok.ensures) c.if-numbers_ok.false
