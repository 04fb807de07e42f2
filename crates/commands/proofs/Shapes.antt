-- Laws of a line's shape, and of the verbs that it asks for.
-- Assumes nothing.
--   sized         a line that has a verb's shape is as long as the verb and its numbers
--   number_there  each of its numbers is one
--   asks_only     of a verb that takes one number of numbers only, the line's shape tells
--   Past vs n l   the first n verbs do not decide: the others do
--   chosen        the first verb decides where the line has its shape
--   passed        the others decide where it has not
--   chosen_any, passed_any   the same of a verb that takes any number of numbers, or any from some number on
--   wished_call   an event's command by its last number asks for the call that this number wishes for
--   unlike        a line of one verb's shape has not another's, whose word begins otherwise
--   nothing_left  a line that is none of picture asks for nothing that is left behind start
--   no_picture    a line of start is none of picture
--   part_length, numbers_part  a part of a line is as long as is asked; its numbers stand there in the line
--   one_more      the first numbers of a list, and the next
--   sift          of all verbs, those decide whose word opens the line
--   long_bad      a line over 64 bytes asks for nothing
--   kept_enough   the bytes of a line that are kept tell as much as the whole
use Prim.Native.Nat.{ℕ, ◌+◌, ◌*◌, ◌/◌, ◌<◌, ◌≤◌}
use mathlib.Core.Path.{◌≡◌, refl, sym, ap, ◌∙◌}
use mathlib.Core.Bool.{Bool, true, false}
use mathlib.Core.List.{List, [], ◌∷◌, ◌++◌}
use mathlib.Core.Option.{none, some}
use mathlib.Core.Logic.{⊎_elim}
use native.Mathlib.Omega.{arith}
use borrow.Author.Tests.{eqb-true, eqb-false, ne_eqb, le-leb, lt-leb}
use lib.Dec.{eqb, ltb}
use lib.ListN.{length, take, drop, length-append, length-drop, get_or-append}
use lib.Seq.{take_all, length-take-le, get_or-take, get_or-drop, get_or-append_seam}
use Rattle.std.specs.Prelude as Std
use Rattle.std.specs.Prelude.{Some, None, option_map}
use Rattle.tools.specs.Tests.{pick}
use Rattle.tools.specs.Lists.{byte, tab}
use Rattle.tools.proofs.Tests.{each, not_each, all_at, all_not, and_true, and_false, lt_or_le}
use Rattle.tools.proofs.Lists.{length_tab, tab_at, tab_same, is_tab}
use Rattle.text.specs.Words.{ascii, opens}
use Rattle.text.specs.Digits.{is_number, number_at, numbers_at}
use Rattle.text.specs.Stream.{most}
use Rattle.rules.specs.Model.{Act}
use Rattle.rules.specs.Calls.{on}
use Rattle.commands.specs.declared.Command.{Command}
use Rattle.commands.specs.Lines.{shaped, count_after, makes, Verb, wish, lists, verbs, asks, choose, parse_of, numbers_in, wanted_by, wanted_in}

pub sized : (l w : List ℕ) (n : ℕ) → shaped l w n ≡ true → length l ≡ length w + 4 * n
unfolding shaped
sized l w n h = eqb-true _ _ (each _ h 0)

pub number_there : (l w : List ℕ) (n : ℕ) → shaped l w n ≡ true → (i : ℕ) → i < n → is_number l (length w + 4 * i) ≡ true
unfolding shaped
number_there l w n h i q = all_at _ n i q (each _ h 2)

pub asks_only : (l : List ℕ) (v : Verb) (n : ℕ) → v.takes ≡ eqb n → asks l v ≡ shaped l v.word n
unfolding asks
asks_only l v n k = go (eqb n (count_after l v.word)) refl
  where
    unlike : (t : Bool) → shaped l v.word n ≡ t → (n ≡ count_after l v.word → ⊥) → false ≡ t
    unlike true e h = let s = sized l v.word n e in absurd (h (omega arith))
    unlike false e h = refl

    go : (t : Bool) → eqb n (count_after l v.word) ≡ t → asks l v ≡ shaped l v.word n
    go true e = rw (asks, k, e) (ap (shaped l v.word) (sym (eqb-true _ _ e)))
    go false e = rw (asks, k, e) (unlike _ refl (eqb-false _ _ e))

abbrev pub Past : List Verb → ℕ → List ℕ → Type 0
Past vs n l = choose vs l ≡ choose (drop n vs) l

-- the first of some verbs, which takes n numbers only
module _ (v : Verb) (vs : List Verb) (l : List ℕ) (n : ℕ) (k : v.takes ≡ eqb n) where
  pub chosen : (ns : List ℕ) → (shaped l v.word n ≡ true) × (ns ≡ numbers_at l (length v.word) n) → v.made ns ≡ choose (v ∷ vs) l
  unfolding choose
  chosen ns h =
      let s = sized l v.word n h.0 in
      let c : count_after l v.word ≡ n = omega arith in
      rw (choose, asks_only l v n k ∙ h.0, c, h.1)

  pub passed : shaped l v.word n ≡ false → choose (v ∷ vs) l ≡ choose vs l
  unfolding choose
  passed h = rw (choose, asks_only l v n k ∙ h)

-- the same of a verb that takes as many as there are, or any from some number on
module _ (v : Verb) (vs : List Verb) (l : List ℕ) where
  pub chosen_any : (ns : List ℕ)
      → (shaped l v.word (count_after l v.word) ≡ true) × (ns ≡ numbers_at l (length v.word) (count_after l v.word))
      → choose (v ∷ vs) l ≡ pick (v.takes (length ns)) (v.made ns) (choose vs l)
  unfolding choose asks
  chosen_any ns h =
      let n = count_after l v.word in
      let k : length ns ≡ n = ap length h.1 ∙ length_tab 0 n (λ i. number_at l (length v.word + 4 * i)) in
      rw (choose, asks, h.0, and_true (v.takes n), k, h.1)

  pub passed_any : shaped l v.word (count_after l v.word) ≡ false → choose (v ∷ vs) l ≡ choose vs l
  unfolding choose asks
  passed_any h = rw (choose, asks, h, and_false (v.takes (count_after l v.word)))

-- what a last number asks for, where it makes a command or none
pub wished_call
    : (keep : ℕ) (o : Std.Option Bool) (m : Bool → Command) (c : Bool → Act)
    → ((q : Bool) → wanted_by (m q) ≡ makes (on (c q)))
    → o ≡ pick (ltb 1 keep) None (Some (eqb keep 1))
    → wanted_in (option_map m o) ≡ wish keep c
wished_call keep o m c same e = go (ltb 1 keep) (eqb keep 1) e
  where
    go : (t q : Bool) → o ≡ pick t None (Some q) → wanted_in (option_map m o) ≡ pick t none (some (makes (on (c q))))
    go true q h = ap (λ (p : Std.Option Bool). wanted_in (option_map m p)) h
    go false q h = ap (λ (p : Std.Option Bool). wanted_in (option_map m p)) h ∙ ap some (same q)

-- a line that is the one word and numbers is not the other
pub unlike
    : (l w u : List ℕ) (n m : ℕ)
    → 0 < length w
    → 0 < length u
    → (byte w 0 ≡ byte u 0 → ⊥)
    → shaped l w n ≡ true
    → shaped l u m ≡ false
unfolding shaped opens
unlike l w u n m a b d h =
    let first = eqb-true (byte l 0) (byte w 0) (all_at _ (length w) 0 a (each _ h 1)) in
    not_each _ 1 (all_not _ (length u) 0 b (ne_eqb (byte l 0) (byte u 0) (λ e. d (sym first ∙ e))))

pub nothing_left : (l : List ℕ) → (let w = ascii "picture" in shaped l w (count_after l w) ≡ false) → choose (drop 1 lists) l ≡ none
unfolding choose
nothing_left l h = passed_any _ [] l h

pub no_picture : (l : List ℕ) (n : ℕ) → shaped l (ascii "start") n ≡ true → choose (drop 1 lists) l ≡ none
no_picture l n h =
    let w = ascii "picture" in
    nothing_left l (unlike l (ascii "start") w n (count_after l w) (omega arith) (omega arith) (λ e. eqb-false 115 112 refl e) h)

pub part_length : (l : List ℕ) (a n : ℕ) → a + n ≤ length l → length (take n (drop a l)) ≡ n
part_length l a n h = length-take-le n (drop a l) (simp length-drop (omega arith))

number_part : (l : List ℕ) (a n at : ℕ) → at + 4 ≤ n → number_at (take n (drop a l)) at ≡ number_at l (a + at)
unfolding number_at
number_part l a n at h = rw (number_at, there 1 (omega arith), there 2 (omega arith), there 3 (omega arith))
  where
    there : (i : ℕ) → i < 4 → byte (take n (drop a l)) (at + i) ≡ byte l (a + at + i)
    there i q =
        let e : a + (at + i) ≡ a + at + i = omega arith in
        get_or-take n (drop a l) (at + i) 0 (omega arith) ∙ get_or-drop a l (at + i) 0 ∙ ap (byte l) e

pub numbers_part : (l : List ℕ) (a n : ℕ) → a + n ≤ length l → numbers_in (take n (drop a l)) ≡ numbers_at l a (n / 4)
numbers_part l a n h =
    rw (part_length l a n h)
    (tab_same (n / 4) (λ i. number_at (take n (drop a l)) (0 + 4 * i)) (λ i. number_at l (a + 4 * i))
    (λ i q.
    let e : a + (0 + 4 * i) ≡ a + 4 * i = omega arith in
    number_part l a n (0 + 4 * i) (omega arith) ∙ ap (number_at l) e))

-- a list of the first n numbers, and the next
pub one_more : (f : ℕ → ℕ) (n : ℕ) (l : List ℕ) (x : ℕ) → l ≡ tab 0 n f → x ≡ f n → l ++ (x ∷ []) ≡ tab 0 (n + 1) f
one_more f n l x e h =
    let k : length l ≡ n = ap length e ∙ length_tab 0 n f in
    is_tab (n + 1) f (l ++ (x ∷ [])) (simp length-append (omega arith))
    (λ i q.
    ⊎_elim
    (λ (s : i < n). get_or-append l (x ∷ []) 0 i (omega arith) ∙ ap (λ (m : List ℕ). byte m i) e ∙ tab_at n f i s)
    (λ (s : n ≤ i).
    let j : i ≡ length l = omega arith in
    let j' : n ≡ i = omega arith in
    ap (λ (m : ℕ). byte (l ++ (x ∷ [])) m) j ∙ get_or-append_seam l x [] 0 ∙ h ∙ ap f j')
    (lt_or_le i n))

-- the verbs whose word opens a line
abbrev pub opening : List ℕ → List Verb → List Verb
opening l [] = []
opening l (v ∷ vs) = pick (opens l v.word) (v ∷ opening l vs) (opening l vs)

sift_all : (l : List ℕ) (vs : List Verb) → choose vs l ≡ choose (opening l vs) l
unfolding choose asks shaped
sift_all l [] = refl
sift_all l (v ∷ vs) = go (opens l v.word) refl (sift_all l vs)
  where
    go
        : (t : Bool)
        → opens l v.word ≡ t
        → choose vs l ≡ choose (opening l vs) l
        → choose (v ∷ vs) l ≡ choose (pick t (v ∷ opening l vs) (opening l vs)) l
    go true e ih = ap (pick (asks l v) _) ih
    go false e ih = rw (choose, asks, not_each _ 1 e, and_false (v.takes (count_after l v.word))) ih

pub sift : (l : List ℕ) → length l ≤ 64 → parse_of l ≡ choose (opening l verbs) l
unfolding parse_of
sift l h = rw (parse_of, le-leb (length l) 64 h) (sift_all l verbs)

pub long_bad : (l : List ℕ) → 64 < length l → parse_of l ≡ none
unfolding parse_of
long_bad l h = rw (parse_of, lt-leb (length l) 64 h)

pub kept_enough : (l : List ℕ) → parse_of (take most l) ≡ parse_of l
kept_enough l =
    ⊎_elim
    (λ (h : most < length l).
    long_bad (take most l) (omega (arith, length-take-le most l (omega arith))) ∙ sym (long_bad l (omega arith)))
    (λ (h : length l ≤ most). ap parse_of (take_all most l h)) (lt_or_le most (length l))
