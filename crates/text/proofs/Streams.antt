-- The laws of streams.
-- Assumes nothing.
--   line_few                   no more of a line that has begun is kept than may be
--   part_none, part_more, take_part   the bytes from one place to another
--   flat_more                  one byte more that is no newline
--   line_ends                  the first newline from a place on, as a search from there finds it
--   after_join, text_join      two pieces, one after the other, are the pieces joined
--   quiet, gathers             bytes with no newline print nothing, and are kept
--   line_text_lem, line_after      a line and its newline
--   more_text, more_after      a piece up to the end of a line, where the line before has ended
--   tail_text, tail_after      a piece up to a place in a line, where the line before has ended
--   first_text, first_after    a piece that ends the line that has begun, and goes on
--   Blind                      an answer goes by the bytes of a line that are kept
--   text_cut, after_cut        a state of which no more is kept prints the same, and goes on alike
--   any_cut                    however the input is cut into pieces, it prints the same
--   printed_none, printed_line, printed_last   what an input prints, line by line
use Prim.Native.Nat.{ℕ, zero, suc, ◌+◌, ◌-◌, ◌<◌, ◌≤◌}
use mathlib.Core.Path.{◌≡◌, refl, sym, ap, ◌∙◌}
use mathlib.Core.Bool.{Bool, true, false, not}
use mathlib.Core.List.{List, [], ◌∷◌, ◌++◌, append_assoc, append-nil, flatten}
use native.Mathlib.Numerals.{add-one}
use native.Mathlib.Omega.{arith}
use borrow.Author.Tests.{not-true, ne_eqb}
use lib.Dec.{eqb}
use lib.ListN.{length, take, drop, get_or, length-take, length-drop}
use lib.Seq.{take-add, take-suc, take-take, get_or-drop}
use Rattle.std.specs.Prelude.{Option, None, Some, MatchOption, unwrap_or}
use Rattle.std.specs.List.{HoldsAt, AllWithin}
use Rattle.tools.proofs.Tests.{and_true_l, and_true_r, eq_by}
use Rattle.text.specs.Stream.{
  Answers,
  flat,
  part,
  Ends,
  State,
  start,
  most,
  cut,
  text_at,
  next,
  after,
  text_of,
  last_text,
  line_of,
  printed,
  runs,
}
use Rattle.text.specs.declared.begun.Pending.{Pending}

pub line_few : (p : Pending) → length (line_of p) ≤ most
line_few p = simp length-take (omega (arith, p.few))

pub part_none : (a : ℕ) (l : List ℕ) → part a a l ≡ []
part_none a l =
    let e : a - a ≡ 0 = omega arith in
    rw e

pub part_more : (a e : ℕ) (l : List ℕ) → a ≤ e → e < length l → part a (e + 1) l ≡ part a e l ++ (get_or l e 0 ∷ [])
part_more a e l h k =
    let i : e + 1 - a ≡ suc (e - a) = omega arith in
    let j : a + (e - a) ≡ e = omega arith in
    rw (i, take-suc (drop a l) (e - a) 0 (simp length-drop (omega arith)), get_or-drop a l (e - a) 0, j)

pub take_part : (a e : ℕ) (l : List ℕ) → a ≤ e → take e l ≡ take a l ++ part a e l
take_part a e l h =
    let j : e ≡ a + (e - a) = omega arith in
    ap (λ (n : ℕ). take n l) j ∙ take-add a (e - a) l

pub flat_more : (xs : List ℕ) (x : ℕ) → flat xs ≡ true → (x ≡ 10 → ⊥) → flat (xs ++ (x ∷ [])) ≡ true
unfolding flat
flat_more [] x f n = rw (ne_eqb x 10 n)
flat_more (y ∷ xs) x f n =
    rw (and_true_l (not (eqb y 10)) (flat xs) f) (flat_more xs x (and_true_r (not (eqb y 10)) (flat xs) f) n)

flat_below : (n : ℕ) (xs : List ℕ) → AllWithin (λ x. x ≡ 10 → ⊥) xs 0 n → n ≤ length xs → flat (take n xs) ≡ true
unfolding flat
flat_below zero xs h l = refl
flat_below (suc n) [] h l = refl
flat_below (suc n) (x ∷ xs) h l =
    rw (ne_eqb x 10 (h 0 0 (omega arith) (omega arith)))
    (flat_below n xs (λ k d a b. h (suc k) d (omega arith) (omega arith)) (omega arith))

-- where a search from a place on finds the first newline, the line ends; where it finds none, at the end
pub line_ends
    : (s : List ℕ) (a : ℕ) (o : Option ℕ)
    → a ≤ length s
    → MatchOption o (AllWithin (λ x. x ≡ 10 → ⊥) (drop a s) 0 (length (drop a s)))
    (λ i. (i < length (drop a s)) × HoldsAt (λ x. x ≡ 10) (drop a s) i × AllWithin (λ x. x ≡ 10 → ⊥) (drop a s) 0 i)
    → Ends s a (a + unwrap_or o (length (drop a s)))
line_ends s a None l h =
    let n : a + length (drop a s) - a ≡ length (drop a s) = omega arith in
    record {
      from = omega arith;
      within = omega (arith, length-drop a s);
      plain = rw n (flat_below (length (drop a s)) (drop a s) h (omega arith));
      newline = λ k. absurd (omega (arith, length-drop a s));
    }
line_ends s a (Some i) l h =
    let n : a + i - a ≡ i = omega arith in
    record {
      from = omega arith;
      within = omega (arith, h.0, length-drop a s);
      plain = rw n (flat_below i (drop a s) h.2 (omega (arith, h.0)));
      newline = λ _. sym (get_or-drop a s i 0) ∙ h.1 0;
    }

plain : (x : ℕ) (xs : List ℕ) → flat (x ∷ xs) ≡ true → eqb x 10 ≡ false
unfolding flat
plain x xs f = not-true (eqb x 10) (and_true_l (not (eqb x 10)) (flat xs) f)

rest : (x : ℕ) (xs : List ℕ) → flat (x ∷ xs) ≡ true → flat xs ≡ true
unfolding flat
rest x xs f = and_true_r (not (eqb x 10)) (flat xs) f

cut_once : (n : ℕ) (xs ys : List ℕ) → take n (take n xs ++ ys) ≡ take n (xs ++ ys)
cut_once zero xs ys = refl
cut_once (suc n) [] ys = refl
cut_once (suc n) (x ∷ xs) ys = ap (λ (l : List ℕ). x ∷ l) (cut_once n xs ys)

module _ {B : Type 0} (A : Answers B) where
  pub after_join : (s : State B) (xs ys : List ℕ) → after A s (xs ++ ys) ≡ after A (after A s xs) ys
  unfolding after
  after_join s [] ys = refl
  after_join s (x ∷ xs) ys = after_join (next A s x) xs ys

  pub text_join : (s : State B) (xs ys : List ℕ) → text_of A s (xs ++ ys) ≡ text_of A s xs ++ text_of A (after A s xs) ys
  unfolding after text_of
  text_join s [] ys = refl
  text_join s (x ∷ xs) ys =
      ap (λ (l : List ℕ). text_at A s x ++ l) (text_join (next A s x) xs ys)
      ∙ sym (append_assoc (text_at A s x) (text_of A (next A s x) xs) _)

  pub quiet : (s : State B) (xs : List ℕ) → flat xs ≡ true → text_of A s xs ≡ []
  unfolding text_of text_at
  quiet s [] f = refl
  quiet s (x ∷ xs) f = rw (text_at, plain x xs f) (quiet (next A s x) xs (rest x xs f))

  pub gathers : (s : State B) (xs : List ℕ) → flat xs ≡ true → after A s xs ≡ record { book = s.book; line = s.line ++ xs }
  unfolding after next
  gathers s [] f = rw (append-nil s.line)
  gathers s (x ∷ xs) f =
      rw (next, plain x xs f)
      (gathers (record { book = s.book; line = s.line ++ (x ∷ []) }) xs (rest x xs f)
      ∙ ap (λ (l : List ℕ). record { book = s.book; line = l }) (append_assoc s.line (x ∷ []) xs))

  pub line_text_lem
      : (s : State B) (xs : List ℕ) → flat xs ≡ true → text_of A s (xs ++ 10 ∷ []) ≡ A.says s.book (s.line ++ xs)
  unfolding text_of text_at
  line_text_lem s xs f = rw (text_join s xs (10 ∷ []), quiet s xs f, gathers s xs f) (append-nil _)

  pub line_after
      : (s : State B) (xs : List ℕ)
      → flat xs ≡ true
      → after A s (xs ++ 10 ∷ []) ≡ start (A.leaves s.book (s.line ++ xs))
  unfolding after next
  line_after s xs f = rw (after_join s xs (10 ∷ []), gathers s xs f)

  module _ (s : State B) (b : B) (xs : List ℕ) (a e : ℕ) (h : Ends xs a e) (began : after A s (take a xs) ≡ start b) where
    line_there : e < length xs → take (e + 1) xs ≡ take a xs ++ (part a e xs ++ 10 ∷ [])
    line_there l =
        rw (add-one, take-suc xs e 0 l, h.newline l, take_part a e xs h.from) (append_assoc (take a xs) (part a e xs) (10 ∷ []))

    pub more_text : e < length xs → text_of A s (take (e + 1) xs) ≡ text_of A s (take a xs) ++ A.says b (part a e xs)
    more_text l =
        rw (
          line_there l,
          text_join s (take a xs) (part a e xs ++ 10 ∷ []),
          began,
          line_text_lem (start b) (part a e xs) h.plain,
        )

    pub more_after : e < length xs → after A s (take (e + 1) xs) ≡ start (A.leaves b (part a e xs))
    more_after l =
        rw (
          line_there l,
          after_join s (take a xs) (part a e xs ++ 10 ∷ []),
          began,
          line_after (start b) (part a e xs) h.plain,
        )

    pub tail_text : text_of A s (take e xs) ≡ text_of A s (take a xs)
    tail_text =
        rw (take_part a e xs h.from, text_join s (take a xs) (part a e xs), quiet (after A s (take a xs)) (part a e xs) h.plain)
        (append-nil (text_of A s (take a xs)))

    pub tail_after : after A s (take e xs) ≡ record { book = b; line = part a e xs }
    tail_after =
        rw (
          take_part a e xs h.from,
          after_join s (take a xs) (part a e xs),
          began,
          gathers (start b) (part a e xs) h.plain,
        )

  module _ (s : State B) (xs : List ℕ) (e : ℕ) (h : Ends xs 0 e) where
    pub first_plain : flat (take e xs) ≡ true
    first_plain =
        let z : e - 0 ≡ e = omega arith in
        rw z at h.plain

    first_there : e < length xs → (n : ℕ) → take (e + 1 + n) xs ≡ (take e xs ++ 10 ∷ []) ++ take n (drop (e + 1) xs)
    first_there l n = take-add (e + 1) n xs ∙ rw (add-one, take-suc xs e 0 l, h.newline l)

    pub first_text
        : e < length xs
        → (n : ℕ)
        → text_of A s (take (e + 1 + n) xs)
        ≡ A.says s.book (s.line ++ take e xs)
        ++ text_of A (start (A.leaves s.book (s.line ++ take e xs))) (take n (drop (e + 1) xs))
    first_text l n =
        rw (
          first_there l n,
          text_join s (take e xs ++ 10 ∷ []) (take n (drop (e + 1) xs)),
          line_text_lem s (take e xs) first_plain,
          line_after s (take e xs) first_plain,
        )

    pub first_after
        : e < length xs
        → (n : ℕ)
        → after A s (take (e + 1 + n) xs)
        ≡ after A (start (A.leaves s.book (s.line ++ take e xs))) (take n (drop (e + 1) xs))
    first_after l n =
        rw (
          first_there l n,
          after_join s (take e xs ++ 10 ∷ []) (take n (drop (e + 1) xs)),
          line_after s (take e xs) first_plain,
        )

  pub printed_none : (b : B) → printed A b [] ≡ []
  unfolding printed text_of after last_text
  printed_none b = refl

  pub printed_line
      : (b : B) (l xs : List ℕ)
      → flat l ≡ true
      → printed A b (l ++ 10 ∷ xs) ≡ A.says b l ++ printed A (A.leaves b l) xs
  unfolding printed
  printed_line b l xs f =
      let s = start (A.leaves b l) in
      let e : l ++ 10 ∷ xs ≡ (l ++ 10 ∷ []) ++ xs = sym (append_assoc l (10 ∷ []) xs) in
      rw
      (e, text_join (start b) (l ++ 10 ∷ []) xs, after_join (start b) (l ++ 10 ∷ []) xs, line_text_lem (start b) l f, line_after (start b) l f)
      (append_assoc (A.says b l) (text_of A s xs) (last_text A (after A s xs)))

  pub printed_last : (b : B) (l : List ℕ) → flat l ≡ true → (length l ≡ 0 → ⊥) → printed A b l ≡ A.says b l
  unfolding printed last_text
  printed_last b l f n = rw (quiet (start b) l f, gathers (start b) l f, ne_eqb (length l) 0 n)

pub record Blind {B : Type 0} (A : Answers B) : Type 0 where
  pub says : (b : B) (l : List ℕ) → A.says b (take most l) ≡ A.says b l
  pub leaves : (b : B) (l : List ℕ) → A.leaves b (take most l) ≡ A.leaves b l

module _ {B : Type 0} (A : Answers B) (blind : Blind A) where
  text_at_cut : (s : State B) (x : ℕ) → text_at A (cut s) x ≡ text_at A s x
  unfolding text_at
  text_at_cut s x = rw (text_at, blind.says s.book s.line)

  next_cut : (s : State B) (x : ℕ) → cut (next A (cut s) x) ≡ cut (next A s x)
  unfolding next
  next_cut s x = go (eqb x 10) refl
    where
      go : (t : Bool) → eqb x 10 ≡ t → cut (next A (cut s) x) ≡ cut (next A s x)
      go true e = rw (next, e, blind.leaves s.book s.line)
      go false e = rw (next, e, cut_once most s.line (x ∷ []))

  pub text_cut : (s : State B) (xs : List ℕ) → text_of A (cut s) xs ≡ text_of A s xs
  unfolding text_of
  text_cut s [] = refl
  text_cut s (x ∷ xs) =
      rw (text_at_cut s x)
      (ap (λ (l : List ℕ). text_at A s x ++ l)
      (sym (text_cut (next A (cut s) x) xs) ∙ ap (λ (u : State B). text_of A u xs) (next_cut s x) ∙ text_cut (next A s x) xs))

  pub after_cut : (s : State B) (xs : List ℕ) → cut (after A (cut s) xs) ≡ cut (after A s xs)
  unfolding after
  after_cut s [] = rw (take-take most most s.line (omega arith))
  after_cut s (x ∷ xs) =
      sym (after_cut (next A (cut s) x) xs)
      ∙ ap (λ (u : State B). cut (after A u xs)) (next_cut s x) ∙ after_cut (next A s x) xs

  last_cut : (s : State B) → last_text A (cut s) ≡ last_text A s
  unfolding last_text
  last_cut s =
      let e : eqb (length (take most s.line)) 0 ≡ eqb (length s.line) 0 =
      eq_by (length (take most s.line)) 0 (length s.line) 0 (simp length-take (λ h. omega arith))
      (simp length-take (λ h. omega arith)) in
      rw (last_text, e, blind.says s.book s.line)

  runs_cut : (s : State B) (ps : List (List ℕ)) → runs A (cut s) ps ≡ text_of A s (flatten ps) ++ last_text A (after A s (flatten ps))
  unfolding runs flatten text_of after
  runs_cut s [] = last_cut s
  runs_cut s (xs ∷ ps) =
      rw (text_cut s xs, after_cut s xs, runs_cut (after A s xs) ps, text_join A s xs (flatten ps), after_join A s xs (flatten ps))
      (sym (append_assoc (text_of A s xs) (text_of A (after A s xs) (flatten ps)) _))

  pub any_cut : (b : B) (ps : List (List ℕ)) → runs A (start b) ps ≡ printed A b (flatten ps)
  unfolding printed
  any_cut b ps = runs_cut (start b) ps
