-- An answer as a line: its number, on 000 what goes with it, a newline. All numbers have three digits; a space stands before
-- each later field.
-- Assumes nothing. In words: docs/RULES.md, "Listing".
--   pair p c           a space and a pair, phase.clock
--   pairs D r          the pairs of the first D desks
--   stamp_text D o r   the owner and D pairs
--   word_text w        a space and the relation in words
--   verdict_text t     a space and yes or no
--   odds_text o        the two desks at odds, the lower one first
--   foretold_text n    a space, and yes where the number n is 0, else the number
--   then s f o         the text s, and behind it f of what o holds, if it holds something
--   answer_text D a    the line in a book of D desks: the number, then each part of the value that is there
--   longest            the bytes of the longest line: number, owner, eight pairs, a place or a number of desks, slot and newline
use Rattle.std.specs.Prelude.{ℕ, zero, suc, Bool, true, false, List, [], ◌∷◌, ◌++◌, eqb}
use Rattle.std.proofs.Math.Option.{Option, none, some}
use Rattle.tools.specs.Tests.{pick}
use Rattle.text.specs.Words.{ascii}
use Rattle.text.specs.Put.{three, field}
use Rattle.rules.specs.declared.Relation.{Relation}
use Rattle.rules.specs.declared.Relation.TheVariants.{Before, After, Same, Concurrent, Crossed}
use Rattle.rules.specs.Model.{Row, Label, Odds, Answer}

abbrev pub pair : ℕ → ℕ → List ℕ
pair p c = field p ++ 46 ∷ three c

unfoldable pub pairs : ℕ → Row → List ℕ
pairs zero r = []
pairs (suc n) r = pairs n r ++ pair (r n).phase (r n).clock

abbrev pub stamp_text : ℕ → ℕ → Row → List ℕ
stamp_text D owner r = field owner ++ pairs D r

abbrev pub word_text : Relation → List ℕ
word_text Before = ascii " before"
word_text After = ascii " after"
word_text Same = ascii " same"
word_text Concurrent = ascii " concurrent"
word_text Crossed = ascii " crossed"

abbrev pub verdict_text : Bool → List ℕ
verdict_text true = ascii " yes"
verdict_text false = ascii " no"

abbrev pub odds_text : Odds → List ℕ
odds_text o = field o.lower ++ field o.higher

abbrev pub foretold_text : ℕ → List ℕ
foretold_text n = pick (eqb n 0) (ascii " yes") (field n)

abbrev pub then : {A : Type 0} → List ℕ → (A → List ℕ) → Option A → List ℕ
then s f none = s
then s f (some a) = s ++ f a

-- no line asks for a row to be shown
abbrev pub answer_text : ℕ → Answer → List ℕ
answer_text D a =
    let placed = then (three a.number) field a.value.place in
    let stamped = then placed (λ (e : Label). stamp_text D e.owner e.row) a.value.stamp in
    let learnt = then stamped field a.value.learnt in
    let kept = then learnt field a.value.slot in
    let told = then kept verdict_text a.value.verdict in
    let related = then told word_text a.value.relation in
    let named = then related odds_text a.value.odds in
    then named foretold_text a.value.foretold ++ (10 ∷ [])

abbrev pub longest : ℕ
longest = 80
