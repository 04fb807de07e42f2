use Rattle.text.specs.Stream.{most, line_of}
use Rattle.tools.proofs.Tests.{lt_or_le}
use Rattle.std.proofs.Common.{◌≡◌, ◌<◌, ◌≤◌, ◌+◌, ◌-◌, ℕ, List, ◌++◌, length, take, ap, sym, ◌∙◌, arith, rules, min}
use mathlib.Core.Logic.{⊎_elim}
use lib.Seq.{take_all, take-append-add, length-take-le}
use Rattle.std.proofs.lemmas.Slice.{take-put_mid}
use Rattle.text.proofs.lengthen.Goals as goal

-- of a list as many as there are, but no more than n, are its first n
upto : (xs : List ℕ) (n k : ℕ) → k ≡ min (length xs) n → take k xs ≡ take n xs
upto xs n k e =
    ⊎_elim
    (λ (h : length xs < n). take_all k xs (omega arith) ∙ sym (take_all n xs (omega arith)))
    (λ (h : n ≤ length xs). ap (λ (m : ℕ). take m xs) (omega arith))
    (lt_or_le (length xs) n)

lengthened
    : (held more : List ℕ) (room : ℕ)
    → length held + room ≡ most
    → held ++ take room more ≡ take most (held ++ more)
lengthened held more room e = sym (rw (← e) (take-append-add held more room))

pub returns : goal.returns
returns c =
    let p = c.args.line.now in
    let held = line_of p in
    let more = c.args.more.now in
    let size : length p.line ≡ 65 = search rules in
    let count : length held ≡ p.count = length-take-le p.count p.line (omega (arith, size, p.few)) in
    let room = most - p.count in
    let after = c.copy_from_slice.ensures.after in
    take-put_mid p.count _ p.line c.copy_from_slice.new.self _ (omega (arith, ap length after)) (omega (arith, size, p.few))
    ∙ ap (λ (l : List ℕ). held ++ l) (after ∙ upto more room _ c.min.ensures)
    ∙ lengthened held more room (omega (arith, count, p.few))
