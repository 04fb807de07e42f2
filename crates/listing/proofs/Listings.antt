-- What the listing prints is one function of the bytes of its input.
-- Assumes nothing.
--   any_pieces   however the input is cut into pieces, the listing prints the same
--   kept_few     no more of a begun line is kept than may be
--   feeds_one    what a piece leaves goes by how many of its bytes are taken in
--   feeds_none   no byte of a piece is taken in
--   feeds_on     a piece is taken in up to a place, and then from there on
--   text_on      what that prints
use Prim.Native.Nat.{ℕ, ◌+◌, ◌≤◌}
use mathlib.Core.Path.{◌≡◌, sym, ap, ◌∙◌}
use mathlib.Core.List.{List, ◌++◌, flatten}
use native.Mathlib.Omega.{arith}
use lib.ListN.{take, drop, length, length-take, length-drop}
use lib.Seq.{take-add, take_all}
use Rattle.text.specs.Stream.{State, start, printed, runs, most, cut, after, text_of, held}
use Rattle.text.proofs.Streams.{any_cut, text_join, after_join, text_cut, after_cut}
use Rattle.office.specs.Office.{Folder}
use Rattle.answering.specs.Answering.{answering}
use Rattle.answering.proofs.Answered.{blind}
use Rattle.listing.specs.Feeding.{fed_text, Feeds}

pub any_pieces : (b : Folder) (ps : List (List ℕ)) → runs answering (start b) ps ≡ printed answering b (flatten ps)
any_pieces b ps = any_cut answering blind b ps

pub kept_few : (p l : List ℕ) → p ≡ take most l → length p ≤ most
kept_few p l e = rw e (simp length-take (omega arith))

pub feeds_one
    : (s : State Folder) (xs : List ℕ) (n : ℕ) (b b' : Folder) (p p' : List ℕ)
    → Feeds s xs n b p
    → Feeds s xs n b' p'
    → (b ≡ b') × (p ≡ p')
feeds_one s xs n b b' p p' f g =
    let e : held b p ≡ held b' p' = f.left ∙ sym g.left in
    (ap (λ (u : State Folder). u.book) e, ap (λ (u : State Folder). u.line) e)

pub feeds_none : (b : Folder) (p xs : List ℕ) → length p ≤ most → Feeds (held b p) xs 0 b p
unfolding after
feeds_none b p xs h =
    record {
      within = omega arith;
      few = h;
      left = ap (λ (l : List ℕ). record { book = b; line = l }) (sym (take_all most p h));
    }

pub feeds_on
    : (s : State Folder) (xs : List ℕ) (n : ℕ) (b : Folder) (p : List ℕ)
    → Feeds s xs n b p
    → (m : ℕ) (b' : Folder) (p' : List ℕ)
    → Feeds (held b p) (drop n xs) m b' p'
    → Feeds s xs (n + m) b' p'
feeds_on s xs n b p f m b' p' g =
    let ys = take m (drop n xs) in
    let joined : after answering s (take (n + m) xs) ≡ after answering (after answering s (take n xs)) ys =
    rw (take-add n m xs) (after_join answering s (take n xs) ys) in
    record {
      within = omega (arith, f.within, simp length-drop at g.within);
      few = g.few;
      left =
          g.left
          ∙ ap (λ (u : State Folder). cut (after answering u ys)) f.left
          ∙ after_cut answering blind (after answering s (take n xs)) ys
          ∙ ap cut (sym joined);
    }

pub text_on
    : (s : State Folder) (xs : List ℕ) (n : ℕ) (b : Folder) (p : List ℕ)
    → Feeds s xs n b p
    → (m : ℕ)
    → fed_text s xs (n + m) ≡ fed_text s xs n ++ fed_text (held b p) (drop n xs) m
text_on s xs n b p f m =
    let ys = take m (drop n xs) in
    let u = after answering s (take n xs) in
    rw (take-add n m xs)
    (text_join answering s (take n xs) ys
    ∙ ap (λ (t : List ℕ). text_of answering s (take n xs) ++ t)
    (sym (text_cut answering blind u ys) ∙ ap (λ (v : State Folder). text_of answering v ys) (sym f.left)))
