-- The parser is exact: what is asked for, a call or may, is read back where it is written out, and a line that is read is what it asks
-- for written out.
-- Assumes nothing.
--   written   what has a line, its numbers of at most three digits, is read as itself where it is written out
--   bad_count a start whose limits are miscounted, written out, is read as no call
--   reads     a line that is read as asking for something is that written out
use Prim.Native.Nat.{ℕ, zero, suc, ◌+◌, ◌*◌, ◌-◌, ◌/◌, ◌%◌, ◌<◌, ◌≤◌}
use mathlib.Core.Path.{◌≡◌, refl, sym, ap, subst, ◌∙◌}
use mathlib.Core.Bool.{Bool, true, false}
use mathlib.Core.List.{List, [], ◌∷◌, ◌++◌}
use mathlib.Core.Option.{none, some}
use mathlib.Core.Logic.{⊎_elim}
use native.Mathlib.Nat.{not-suc-le-zero, le_of_suc-le-suc, add-zero}
use native.Mathlib.Omega.{arith}
use borrow.Author.Tests.{eqb-true, eq-eqb, lt-ltb, le-leb, leb-true}
use lib.Dec.{eqb, leb}
use lib.ListN.{length, length-append, get_or-append}
use lib.Seq.{ext_get_or, get_or-append-add}
use Rattle.tools.specs.Tests.{pick, all_of, all_below, within}
use Rattle.tools.specs.Lists.{byte, tab}
use Rattle.tools.proofs.Tests.{each, all_at, all_in, lt_or_le, pick_true, pick_false, and_true_l, and_true_r}
use Rattle.tools.proofs.Tables.{some_is, none_some}
use Rattle.tools.proofs.Lists.{length_tab, tab_at, is_tab}
use Rattle.text.specs.Words.{ascii, opens}
use Rattle.text.specs.Digits.{is_digit, is_number, number_at, numbers_at}
use Rattle.text.specs.Put.{field}
use Rattle.text.proofs.Numerals.{Digits, digits}
use Rattle.rules.specs.Setups.{Setup}
use Rattle.rules.specs.Model.{ask_before, ask_compare, ask_picture, ask_show, ask_write, Act, local, send, receive, reset, drop, discard, ask}
use Rattle.rules.specs.Calls.{start, on}
use Rattle.commands.specs.Lines.{shaped, count_after, Wanted, makes, asks_may, Verb, wish, setup_from, miscounted, start_of, verbs}
use Rattle.commands.specs.Lines.{asks, choose, parse_of}
use Rattle.commands.specs.Written.{fields, wish_number, numbers_of, text_of, Spoken, Small}
use Rattle.commands.proofs.Shapes.{sized, number_there, sift, long_bad}
use Rattle.commands.proofs.Starts.{setup_back, setup_whole}

fields_length : (ns : List ℕ) → length (fields ns) ≡ 4 * length ns
fields_length [] = refl
fields_length (n ∷ ns) = omega (arith, fields_length ns)

field_at : (ns : List ℕ) (i j : ℕ) → i < length ns → j < 4 → byte (fields ns) (4 * i + j) ≡ byte (field (byte ns i)) j
field_at [] i j h k = absurd (not-suc-le-zero h)
field_at (n ∷ ns) zero j h k =
    let e : 4 * 0 + j ≡ j = omega arith in
    ap (λ (m : ℕ). byte (field n ++ fields ns) m) e ∙ get_or-append (field n) (fields ns) 0 j k
field_at (n ∷ ns) (suc i) j h k =
    let e : 4 * suc i + j ≡ 4 + (4 * i + j) = omega arith in
    ap (λ (m : ℕ). byte (field n ++ fields ns) m) e ∙ get_or-append-add (field n) (fields ns) (4 * i + j) 0
    ∙ field_at ns i j (le_of_suc-le-suc h) k

is_digit_lem : (d : ℕ) → d ≤ 9 → is_digit (48 + d) ≡ true
unfolding is_digit within all_of
is_digit_lem d h = rw (le-leb 48 (48 + d) (omega arith), le-leb (48 + d) 57 (omega arith))

-- a word and numbers that are written out after it
module _ (w ns : List ℕ) where
  there
      : (i j : ℕ)
      → i < length ns
      → j < 4
      → byte (w ++ fields ns) (length w + 4 * i + j) ≡ byte (field (byte ns i)) j
  there i j h k =
      let e : length w + 4 * i + j ≡ length w + (4 * i + j) = omega arith in
      ap (λ (m : ℕ). byte (w ++ fields ns) m) e ∙ get_or-append-add w (fields ns) (4 * i + j) 0 ∙ field_at ns i j h k

  space : (i : ℕ) → i < length ns → byte (w ++ fields ns) (length w + 4 * i) ≡ 32
  space i h = ap (λ (m : ℕ). byte (w ++ fields ns) m) (sym (add-zero (length w + 4 * i))) ∙ there i 0 h (omega arith)

  is_there : (i : ℕ) → i < length ns → byte ns i < 1000 → is_number (w ++ fields ns) (length w + 4 * i) ≡ true
  unfolding is_number all_of
  is_there i h s =
      let n = byte ns i in
      rw (
        is_number,
        space i h,
        there i 1 h (omega arith),
        there i 2 h (omega arith),
        there i 3 h (omega arith),
        is_digit_lem (n / 100) (omega arith),
        is_digit_lem (n / 10 % 10) (omega arith),
        is_digit_lem (n % 10) (omega arith),
      )

  is_worth : (i : ℕ) → i < length ns → byte ns i < 1000 → number_at (w ++ fields ns) (length w + 4 * i) ≡ byte ns i
  unfolding number_at
  is_worth i h s =
      rw (number_at, there i 1 h (omega arith), there i 2 h (omega arith), there i 3 h (omega arith)) (omega arith)

  opens_itself : opens (w ++ fields ns) w ≡ true
  unfolding opens
  opens_itself = all_in _ (length w) (λ i l. eq-eqb _ _ (get_or-append w (fields ns) 0 i l))

  is_shaped : Small ns → shaped (w ++ fields ns) w (length ns) ≡ true
  unfolding shaped all_of
  is_shaped s =
      rw (
        shaped,
        eq-eqb (length (w ++ fields ns)) (length w + 4 * length ns) (simp length-append (omega (arith, fields_length ns))),
        opens_itself,
        all_in (λ i. is_number (w ++ fields ns) (length w + 4 * i)) (length ns) (λ i l. is_there i l (s i l)),
      )

  numbers_back : Small ns → numbers_at (w ++ fields ns) (length w) (length ns) ≡ ns
  numbers_back s = sym (is_tab (length ns) _ ns refl (λ i l. sym (is_worth i l (s i l))))

  count_back : count_after (w ++ fields ns) w ≡ length ns
  count_back = simp length-append (omega (arith, fields_length ns))

own : (v : Verb) (vs : List Verb) (ns : List ℕ) → v.takes (length ns) ≡ true → Small ns → choose (v ∷ vs) (v.word ++ fields ns) ≡ v.made ns
unfolding choose asks
own v vs ns e s = rw (choose, asks, count_back v.word ns, e, is_shaped v.word ns s, numbers_back v.word ns s)

-- a yes or no that is written out is read back
wish_back : (q : Bool) (c : Bool → Act) → wish (wish_number q) c ≡ some (makes (on (c q)))
wish_back true c = refl
wish_back false c = refl

-- a start that is written out is read as the call of its numbers, which make its setup
start_line : (X : Setup) → length (text_of (makes (start X))) ≤ 64 → Small (numbers_of (makes (start X)))
    → parse_of (text_of (makes (start X))) ≡ pick (miscounted X) none (some (makes (start X)))
unfolding verbs opens all_below start_of
start_line X h s =
    let ns = numbers_of (makes (start X)) in
    sift _ h ∙ own _ _ ns (le-leb 6 (length ns) (simp length-append (omega arith))) s ∙ rw (start_of, setup_back X)

pub written : (a : Wanted) → Spoken a → Small (numbers_of a) → parse_of (text_of a) ≡ some a
unfolding verbs opens all_below
written (makes (start X)) g s = start_line X g.2 s ∙ pick_false _ _ _ g.1
written (makes (on (local d q))) g s = sift _ g.2 ∙ own _ _ (d ∷ wish_number q ∷ []) refl s ∙ wish_back q (local d)
written (makes (on (send d k q))) g s = sift _ g.2 ∙ own _ _ (d ∷ k ∷ wish_number q ∷ []) refl s ∙ wish_back q (send d k)
written (makes (on (receive d p q))) g s = sift _ g.2 ∙ own _ _ (d ∷ p ∷ wish_number q ∷ []) refl s ∙ wish_back q (receive d p)
written (makes (on (reset d q))) g s = sift _ g.2 ∙ own _ _ (d ∷ wish_number q ∷ []) refl s ∙ wish_back q (reset d)
written (makes (on (drop d))) g s = sift _ g.2 ∙ own _ _ (d ∷ []) refl s
written (makes (on (discard p))) g s = sift _ g.2 ∙ own _ _ (p ∷ []) refl s
written (makes (on (ask (ask_before d k)))) g s = sift _ g.2 ∙ own _ _ (d ∷ k ∷ []) refl s
written (makes (on (ask (ask_compare d k)))) g s = sift _ g.2 ∙ own _ _ (d ∷ k ∷ []) refl s
written (makes (on (ask (ask_picture ss)))) g s = sift _ g.2 ∙ own _ _ ss refl s
written (makes (on (ask (ask_show d)))) g s = absurd (g.0 refl)
written (makes (on (ask (ask_write d room)))) g s = absurd (g.0 refl)
written (asks_may d) g s = sift _ g.2 ∙ own _ _ (d ∷ []) refl s

pub bad_count
    : (X : Setup)
    → miscounted X ≡ true
    → Small (numbers_of (makes (start X)))
    → parse_of (text_of (makes (start X))) ≡ none
bad_count X h s =
    let l = text_of (makes (start X)) in
    ⊎_elim (long_bad l) (λ (q : length l ≤ 64). start_line X q s ∙ pick_true _ _ _ h) (lt_or_le 64 (length l))

-- the other way: what a shape says of a line
digit_back : (l : List ℕ) (at : ℕ) → Digits l at → (r : ℕ) → r < 4 → byte (field (number_at l at)) r ≡ byte l (at + r)
unfolding number_at
digit_back l at d zero h = sym (ap (λ (m : ℕ). byte l m) (add-zero at) ∙ d.space)
digit_back l at d (suc zero) h = omega arith
digit_back l at d (suc (suc zero)) h = omega arith
digit_back l at d (suc (suc (suc zero))) h = omega arith
digit_back l at d (suc (suc (suc (suc r)))) h = absurd (omega arith)

value_small : (l : List ℕ) (at : ℕ) → Digits l at → number_at l at < 1000
unfolding number_at
value_small l at d = omega arith

module _ (l w : List ℕ) (n : ℕ) (h : shaped l w n ≡ true) where
  there_back : (i : ℕ) → i < n → Digits l (length w + 4 * i)
  there_back i q = digits l (length w + 4 * i) (number_there l w n h i q)

  word_back : (i : ℕ) → i < length w → byte l i ≡ byte w i
  unfolding shaped opens
  word_back i q = eqb-true _ _ (all_at _ (length w) i q (each _ h 1))

  abbrev found : List ℕ
  found = numbers_at l (length w) n

  number_back : (q r : ℕ) → q < n → r < 4 → byte l (length w + 4 * q + r) ≡ byte (w ++ fields found) (length w + 4 * q + r)
  number_back q r a b =
      sym
      (there w found q r (rw (length_tab 0 n (λ i. number_at l (length w + 4 * i))) a) b
      ∙ ap (λ (m : ℕ). byte (field m) r) (tab_at n (λ i. number_at l (length w + 4 * i)) q a)
      ∙ digit_back l (length w + 4 * q) (there_back q a) r b)

  shape_back : l ≡ w ++ fields found
  shape_back =
      ext_get_or 0 l (w ++ fields found)
      (simp length-append
      (omega (arith, sized l w n h, fields_length found, length_tab 0 n (λ i. number_at l (length w + 4 * i)))))
      (λ i q.
      ⊎_elim (λ (a : i < length w). word_back i a ∙ sym (get_or-append w (fields found) 0 i a))
      (λ (a : length w ≤ i).
      let e : length w + 4 * ((i - length w) / 4) + (i - length w) % 4 ≡ i = omega arith in
      rw e at (number_back ((i - length w) / 4) ((i - length w) % 4) (omega (arith, sized l w n h)) (omega arith)))
      (lt_or_le i (length w)))

  small_back : Small found
  small_back i q =
      let a : i < n = rw (length_tab 0 n (λ k. number_at l (length w + 4 * k))) at q in
      rw (tab_at n (λ k. number_at l (length w + 4 * k)) i a) (value_small l (length w + 4 * i) (there_back i a))

-- a line that is read is what it asks for written out
abbrev Written : List ℕ → Wanted → Type 0
Written l a = (l ≡ text_of a) × Small (numbers_of a)

-- what is asked for is written as this word and these numbers
abbrev Says : List ℕ → List ℕ → Wanted → Type 0
Says w ns a = (text_of a ≡ w ++ fields ns) × (numbers_of a ≡ ns)

-- a line of the shape of what it asks for is written as
say_back : (l w : List ℕ) (n : ℕ) (h : shaped l w n ≡ true) (a : Wanted) → Says w (numbers_at l (length w) n) a → Written l a
say_back l w n h a said = (shape_back l w n h ∙ sym said.0, rw said.1 (small_back l w n h))

-- what a verb makes of as many numbers as it takes is written as the verb and these numbers
abbrev MadeSays : Verb → List ℕ → Type 0
MadeSays v ns = (a : Wanted) → v.made ns ≡ some a → Says v.word ns a

data Fair : List Verb → Type 0 where
  none_left : Fair []
  more : {v : Verb} {vs : List Verb} → ((ns : List ℕ) → v.takes (length ns) ≡ true → MadeSays v ns) → Fair vs → Fair (v ∷ vs)

choose_reads : (vs : List Verb) → Fair vs → (l : List ℕ) (a : Wanted) → choose vs l ≡ some a → Written l a
unfolding choose asks
choose_reads [] none_left l a e = absurd (none_some e)
choose_reads (v ∷ vs) (more says f) l a e = go (asks l v) refl e (choose_reads vs f l a)
  where
    n : ℕ
    n = count_after l v.word

    ns : List ℕ
    ns = numbers_at l (length v.word) n

    many : length ns ≡ n
    many = length_tab 0 n (λ i. number_at l (length v.word + 4 * i))

    go
        : (t : Bool)
        → asks l v ≡ t
        → pick t (v.made ns) (choose vs l) ≡ some a
        → (choose vs l ≡ some a → Written l a)
        → Written l a
    go true h q ih =
        say_back l v.word n (and_true_r (v.takes n) (shaped l v.word n) h) a
        (says ns (ap v.takes many ∙ and_true_l (v.takes n) (shaped l v.word n) h) a q)
    go false h q ih = ih q

-- a verb that takes n numbers only is fair where it is of every n of them
only : {v : Verb} {vs : List Verb} (n : ℕ) → v.takes ≡ eqb n → ((f : ℕ → ℕ) → MadeSays v (tab 0 n f)) → Fair vs → Fair (v ∷ vs)
only {v} n k h =
    more
    (λ ns e.
    let q : n ≡ length ns = eqb-true _ _ (ap (λ p. p (length ns)) (sym k) ∙ e) in
    subst (MadeSays v) (sym (is_tab n (byte ns) ns (sym q) (λ i l. refl))) (h (byte ns)))

-- what holds of a yes and a no holds of every call that a last number makes
by_wish
    : (P : ℕ → Wanted → Type 0) (c : Bool → Act)
    → P 0 (makes (on (c false)))
    → P 1 (makes (on (c true)))
    → (q : ℕ) (a : Wanted)
    → wish q c ≡ some a
    → P q a
by_wish P c not-kept kept zero a e = subst (P 0) (some_is e) not-kept
by_wish P c not-kept kept (suc zero) a e = subst (P 1) (some_is e) kept
by_wish P c not-kept kept (suc (suc q)) a e = absurd (none_some (rw (lt-ltb 1 (suc (suc q)) (omega arith)) at e))

-- the call of a start's numbers is written as them
start_says : (ns : List ℕ) → leb 6 (length ns) ≡ true → (a : Wanted) → start_of ns ≡ some a → Says (ascii "start") ns a
unfolding start_of
start_says ns h a e = go (miscounted (setup_from ns)) e
  where
    whole : numbers_of (makes (start (setup_from ns))) ≡ ns
    whole = setup_whole ns (leb-true _ _ h)

    go : (t : Bool) → pick t none (some (makes (start (setup_from ns)))) ≡ some a → Says (ascii "start") ns a
    go true q = absurd (none_some q)
    go false q = subst (Says (ascii "start") ns) (some_is q) (ap (λ m. ascii "start" ++ fields m) whole, whole)

all_fair : Fair verbs
unfolding verbs tab
all_fair =
    only 2 refl (λ f. by_wish (λ q. Says (ascii "local") (f 0 ∷ q ∷ [])) (local (f 0)) (refl, refl) (refl, refl) (f 1))
    (only 3 refl (λ f. by_wish (λ q. Says (ascii "send") (f 0 ∷ f 1 ∷ q ∷ [])) (send (f 0) (f 1)) (refl, refl) (refl, refl) (f 2))
    (only 3 refl (λ f. by_wish (λ q. Says (ascii "receive") (f 0 ∷ f 1 ∷ q ∷ [])) (receive (f 0) (f 1)) (refl, refl) (refl, refl) (f 2))
    (only 2 refl (λ f. by_wish (λ q. Says (ascii "reset") (f 0 ∷ q ∷ [])) (reset (f 0)) (refl, refl) (refl, refl) (f 1))
    (only 1 refl (λ f a e. subst (Says (ascii "drop") _) (some_is e) (refl, refl))
    (only 1 refl (λ f a e. subst (Says (ascii "discard") _) (some_is e) (refl, refl))
    (only 2 refl (λ f a e. subst (Says (ascii "before") _) (some_is e) (refl, refl))
    (only 2 refl (λ f a e. subst (Says (ascii "compare") _) (some_is e) (refl, refl))
    (only 1 refl (λ f a e. subst (Says (ascii "may") _) (some_is e) (refl, refl))
    (more start_says (more (λ ns h a e. subst (Says (ascii "picture") ns) (some_is e) (refl, refl)) none_left))))))))))

pub reads : (l : List ℕ) (a : Wanted) → parse_of l ≡ some a → (l ≡ text_of a) × Small (numbers_of a)
unfolding parse_of
reads l a e = go (leb (length l) 64) e
  where
    go : (t : Bool) → pick t (choose verbs l) none ≡ some a → Written l a
    go true q = choose_reads verbs all_fair l a q
    go false q = absurd (none_some q)
