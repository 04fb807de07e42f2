-- What a write makes of the run, and what a writer holds after it.
-- Assumes nothing.
--   Numbers, numbers   what becomes of the run by the system's own numbers: 11 and 4 go on, 32 and 28 stop it
--   by_number    what the kind of a number makes of the run is what the number makes of it
--   other_reason, not_on   a call that failed for a reason of its own stops the run by it; so the run does not go on
--   untold       a write that stops the run leaves bytes unwritten
--   kept, joins  what a writer holds after a call that keeps it, and after two that append
--   holds_none, same   what it holds where nothing is written
--   wrote        a part of a text that is written, and the bytes that a call takes of the rest
--   taken, read  a call moves no more bytes than it is given room for
--   all, whole   a text that is written to its end lets the run go on, and where it goes on the text is written to its end
--   behind       a text behind one that is written
--   prints, stands   a run that goes by what it prints, and one that goes as it had
--   ends         a run whose input has not ended ends as it went, and leaves the book and papers alone
--   ends_last    one whose input has ended leaves the book and papers that its last line leaves, and ends by how that is written
use Prim.Native.Nat.{ℕ, zero, suc, ◌+◌, ◌-◌, ◌<◌, ◌≤◌}
use mathlib.Core.Path.{◌≡◌, refl, sym, ap, ◌∙◌, subst}
use mathlib.Core.Bool.{Bool, true, false, ◌||◌, ◌&&◌, true≢false}
use mathlib.Core.Logic.{◌⊎◌, inl, inr}
use borrow.Author.Tests.{ne_eqb, eqb-true, le-ltb}
use lib.Dec.{eqb}
use mathlib.Core.List.{List, [], ◌∷◌, ◌++◌, append_assoc, append-nil}
use native.Mathlib.Omega.{arith}
use lib.ListN.{length, take, drop, length-append, length-drop}
use lib.Seq.{take-add, take_all}
use Rattle.std.specs.Prelude.{ℤ, pos, negsuc, if◌then◌else◌, ◌==◌, Result, Ok, Err, Option, Some, None, IfOk}
use Rattle.std.specs.Io.KnownBytes.{Appends, Keeps, WriteAppends}
use Rattle.std.specs.Io.{ReadsAtMost}
use Rattle.std.specs.IoError.{error_kind, raw_os_error, os_error_kind, os_error_kinds, kind_in}
use Rattle.std.specs.declared.io.Error.{Error}
use Rattle.std.specs.declared.io.ErrorKind.{ErrorKind}
use Rattle.std.specs.declared.io.ErrorKind.TheVariants.{WouldBlock, Interrupted, BrokenPipe, Uncategorized}
use Rattle.tools.proofs.Tests.{and_true_l, and_true_r, eq_or_ne}
use Rattle.ends.specs.declared.Stop.{Stop}
use Rattle.ends.specs.declared.Stop.TheVariants.{Ended, Gone, Unread, Unwritten}
use Rattle.text.specs.Stream.{State, last_book}
use Rattle.answering.specs.Answering.{answering}
use Rattle.office.specs.Office.{Folder}
use Rattle.ends.specs.Ends.{Outcome, failure_of, kind_by, reason_kind, failure_went, number_went, read_went, write_went, Told, Writes, Goes, end_book}

-- EAGAIN, EINTR, EPIPE, and a full disk
pub record Numbers (bad : Stop) : Type 0 where
  pub not_ready : failure_of (os_error_kind (pos 11)) bad ≡ Ok 0
  pub interrupted : failure_of (os_error_kind (pos 4)) bad ≡ Ok 0
  pub unread : failure_of (os_error_kind (pos 32)) bad ≡ Err Gone
  pub full_disk : failure_of (os_error_kind (pos 28)) bad ≡ Err bad

pub numbers : (bad : Stop) → Numbers bad
unfolding os_error_kind
numbers bad = record { not_ready = refl; interrupted = refl; unread = refl; full_disk = refl }

-- a kind that is none of the three by which a call is made again or nobody reads
other : ErrorKind → Bool
other WouldBlock = false
other Interrupted = false
other BrokenPipe = false
other _ = true

other_stops : (k : ErrorKind) (bad : Stop) → other k ≡ true → failure_of k bad ≡ Err bad
unfolding other
other_stops WouldBlock bad h = absurd (true≢false (sym h))
other_stops Interrupted bad h = absurd (true≢false (sym h))
other_stops BrokenPipe bad h = absurd (true≢false (sym h))
other_stops _ bad h = refl

-- a row of the table of kinds is one of the three numbers, or its kind is another
known : ℕ × ErrorKind → Bool
known row = (eqb row.0 11 || eqb row.0 4) || (eqb row.0 32 || other row.1)

all_known : List (ℕ × ErrorKind) → Bool
all_known [] = true
all_known (row ∷ rows) = known row && all_known rows

module _ (n : ℕ) (a : n ≡ 11 → ⊥) (b : n ≡ 4 → ⊥) (c : n ≡ 32 → ⊥) (bad : Stop) where
  row_stops : (m : ℕ) (k : ErrorKind) → m ≡ n → known (m, k) ≡ true → failure_of k bad ≡ Err bad
  unfolding known
  row_stops m k e h =
      other_stops k bad (rw (ne_eqb m 11 (λ q. a (sym e ∙ q)), ne_eqb m 4 (λ q. b (sym e ∙ q)), ne_eqb m 32 (λ q. c (sym e ∙ q))) at h)

  rows_stop : (rows : List (ℕ × ErrorKind)) → all_known rows ≡ true → failure_of (kind_in rows n) bad ≡ Err bad
  unfolding all_known
  rows_stop [] h = refl
  rows_stop (row ∷ rows) h =
      go (n == row.0) refl (rows_stop rows (and_true_r (known row) (all_known rows) h))
    where
      go : (t : Bool) → n == row.0 ≡ t → failure_of (kind_in rows n) bad ≡ Err bad
          → failure_of (if t then row.1 else kind_in rows n) bad ≡ Err bad
      go true e rest = row_stops row.0 row.1 (sym (eqb-true n row.0 e)) (and_true_l (known row) (all_known rows) h)
      go false e rest = rest

  stops : number_went (pos n) bad ≡ Err bad
  stops = rw (ne_eqb n 11 a, ne_eqb n 4 b, ne_eqb n 32 c)

  other_number : failure_of (os_error_kind (pos n)) bad ≡ Err bad
  unfolding os_error_kind known all_known other
  other_number =
      ap (λ (t : Bool). failure_of (if t then Uncategorized else kind_in os_error_kinds n) bad) (le-ltb n 0 (omega arith))
      ∙ rows_stop os_error_kinds refl

below : (n : ℕ) (bad : Stop) → failure_of (os_error_kind (negsuc n)) bad ≡ Err bad
unfolding os_error_kind
below n bad = refl

pub by_number : (z : ℤ) (bad : Stop) → failure_of (os_error_kind z) bad ≡ number_went z bad
by_number (negsuc n) bad = below n bad
by_number (pos n) bad = go (eq_or_ne n 11) (eq_or_ne n 4) (eq_or_ne n 32)
  where
    go : (n ≡ 11) ⊎ (n ≡ 11 → ⊥) → (n ≡ 4) ⊎ (n ≡ 4 → ⊥) → (n ≡ 32) ⊎ (n ≡ 32 → ⊥)
        → failure_of (os_error_kind (pos n)) bad ≡ number_went (pos n) bad
    go (inl e) q r = rw e ((numbers bad).not_ready)
    go (inr a) (inl e) r = rw e ((numbers bad).interrupted)
    go (inr a) (inr b) (inl e) = rw e ((numbers bad).unread)
    go (inr a) (inr b) (inr c) = other_number n a b c bad ∙ sym (stops n a b c bad)

pub other_reason : (e : Error) (n : ℤ) (bad : Stop) → raw_os_error e ≡ Some n
    → (n ≡ pos 11 → ⊥) → (n ≡ pos 4 → ⊥) → (n ≡ pos 32 → ⊥) → Err bad ≡ failure_went e bad
other_reason e n bad h a b c = sym (ap (λ (o : Option ℤ). failure_of (kind_by o (error_kind e)) bad) h ∙ by_number n bad ∙ go n a b c)
  where
    go : (n : ℤ) → (n ≡ pos 11 → ⊥) → (n ≡ pos 4 → ⊥) → (n ≡ pos 32 → ⊥) → number_went n bad ≡ Err bad
    go (pos n) a b c = stops n (λ q. a (ap pos q)) (λ q. b (ap pos q)) (λ q. c (ap pos q)) bad
    go (negsuc n) a b c = refl

pub not_on : (w : Stop) (o : Outcome) → o ≡ Err w → o ≡ Ok tt → ⊥
not_on w o e h = absurd (cc (e, h))

fails : (k : ErrorKind) (e : Option Error) (w : Stop) → failure_of k (Unwritten e) ≡ Err w → (n : ℕ) → 0 < n → Told (Err w) n
fails WouldBlock e w h n l = absurd (cc h)
fails Interrupted e w h n l = absurd (cc h)
fails BrokenPipe e w h n l = let g : Gone ≡ w = cc h in subst (λ v. Told (Err v) n) g l
fails _ e w h n l = let g : Unwritten e ≡ w = cc h in subst (λ v. Told (Err v) n) g l

pub untold : (r : Result ℕ Error) (w : Stop) → write_went r ≡ Err w → (n : ℕ) → 0 < n → Told (Err w) n
untold (Ok zero) w h n l = let g : Unwritten None ≡ w = cc h in subst (λ v. Told (Err v) n) g l
untold (Ok (suc k)) w h n l = absurd (cc h)
untold (Err e) w h n l = fails (reason_kind e) (Some e) w h n l

-- a call that is made again has moved no byte
again : (k : ErrorKind) (bad : Stop) (n : ℕ) → failure_of k bad ≡ Ok n → n ≡ 0
again WouldBlock bad n h = cc h
again Interrupted bad n h = cc h
again BrokenPipe bad n h = absurd (cc h)
again _ bad n h = absurd (cc h)

pub kept : (a b c : Option (List ℕ)) (t : List ℕ) → Appends a b t → Keeps b c → Appends a c t
kept None b c t p q = tt
kept (Some x) None c t p q = absurd p
kept (Some x) (Some y) None t p q = absurd q
kept (Some x) (Some y) (Some z) t p q = q ∙ p

pub joins : (a b c : Option (List ℕ)) (s t : List ℕ) → Appends a b s → Appends b c t → Appends a c (s ++ t)
joins None b c s t p q = tt
joins (Some x) None c s t p q = absurd p
joins (Some x) (Some y) None s t p q = absurd q
joins (Some x) (Some y) (Some z) s t p q = q ∙ ap (λ (l : List ℕ). l ++ t) p ∙ append_assoc x s t

pub holds_none : (a : Option (List ℕ)) → Appends a a []
holds_none None = tt
holds_none (Some x) = sym (append-nil x)

pub same : (a : Option (List ℕ)) → Keeps a a
same None = tt
same (Some x) = refl

-- d bytes of xs are behind a, and the rest is asked to be written
module _ (a b c : Option (List ℕ)) (xs : List ℕ) (d : ℕ) (held : Appends a b (take d xs)) (r : Result ℕ Error)
    (w : WriteAppends b c r (take (length xs - d) (drop d xs))) where
  grown : (n : ℕ) → Appends b c (take n (take (length xs - d) (drop d xs))) → Appends a c (take (d + n) xs)
  grown n q =
      let e : take (length xs - d) (drop d xs) ≡ drop d xs = take_all (length xs - d) (drop d xs) (simp length-drop (omega arith)) in
      rw (take-add d n xs) (joins a b c (take d xs) (take n (drop d xs)) held (rw e at q))

  pub wrote : (n : ℕ) → write_went r ≡ Ok n → Appends a c (take (d + n) xs)
  wrote n h = go r h w
    where
      go : (r : Result ℕ Error) → write_went r ≡ Ok n → WriteAppends b c r (take (length xs - d) (drop d xs)) → Appends a c (take (d + n) xs)
      go (Ok zero) h w = absurd (cc h)
      go (Ok (suc k)) h w = let e : suc k ≡ n = cc h in grown n (rw e at w)
      go (Err e) h w =
          let z : n ≡ 0 = again (reason_kind e) _ n h in
          let y : d + n ≡ d = omega arith in
          rw y (kept a b c (take d xs) held w)

-- no more is taken than is there
pub taken : (r : Result ℕ Error) (m n : ℕ) → IfOk r (λ k. k ≤ m) → write_went r ≡ Ok n → n ≤ m
taken (Ok zero) m n b h = absurd (cc h)
taken (Ok (suc k)) m n b h = let e : suc k ≡ n = cc h in rw e at b
taken (Err e) m n b h = let z : n ≡ 0 = again (reason_kind e) _ n h in omega arith

-- the same of a read
pub read : (r : Result ℕ Error) (xs : List ℕ) (n : ℕ) → ReadsAtMost r xs → read_went r ≡ Ok n → n ≤ length xs
read (Ok zero) xs n b h = absurd (cc h)
read (Ok (suc k)) xs n b h = let e : suc k ≡ n = cc h in rw e at b.0
read (Err e) xs n b h = let z : n ≡ 0 = again (reason_kind e) _ n h in omega arith

-- a text that is written to its end
pub all : (a b : Option (List ℕ)) (t : List ℕ) → Appends a b t → Writes a b t (Ok tt)
all a b t p = (length t, rw (take_all (length t) t (omega arith)) p, omega arith, omega arith)

pub whole : (a b : Option (List ℕ)) (t : List ℕ) (w : Outcome) → w ≡ Ok tt → Writes a b t w → Appends a b t
whole a b t (Ok u) e (k, q, l, z) = rw (take_all k t (omega arith)) at q
whole a b t (Err w) e q = absurd (cc e)

cut : (s t : List ℕ) (k : ℕ) → take (length s + k) (s ++ t) ≡ s ++ take k t
cut [] t k =
    let e : 0 + k ≡ k = omega arith in
    rw e
cut (x ∷ s) t k =
    let e : suc (length s) + k ≡ suc (length s + k) = omega arith in
    rw e (ap (λ (l : List ℕ). x ∷ l) (cut s t k))

-- a text behind one that is written
pub behind : (a b c : Option (List ℕ)) (s t : List ℕ) (w : Outcome) → Appends a b s → Writes b c t w → Writes a c (s ++ t) w
behind a b c s t w p (k, q, l, told) =
    let e : length (s ++ t) - (length s + k) ≡ length t - k = omega (arith, length-append s t) in
    (length s + k, rw (cut s t k) (joins a b c s (take k t) p q), omega (arith, length-append s t), rw e told)

-- a run that goes by what it prints, and one that goes as it had
module _ (u v : Outcome) (t : List ℕ) (a : Option (List ℕ)) where
  pub prints : (w : Outcome) (b : Option (List ℕ)) → v ≡ u → Writes a b t w → Goes u v w t a b
  prints w b e q = (λ _. q, λ ne. absurd (ne e))

  pub stands : (v ≡ u → ⊥) → Goes u v v t a a
  stands ne = (λ e. absurd (ne e), λ _. (refl, same a))

pub ends : (w : Stop) → (w ≡ Ended → ⊥) → (s : State Folder) (t : List ℕ) (a : Option (List ℕ))
    → (s.book ≡ end_book w s) × Goes (Err Ended) (Err w) (Err w) t a a
ends w k s t a = (go w k, stands (Err Ended) (Err w) t a (λ e. k (cc e)))
  where
    go : (w : Stop) → (w ≡ Ended → ⊥) → s.book ≡ end_book w s
    go Ended k = absurd (k refl)
    go Gone k = refl
    go (Unread e) k = refl
    go (Unwritten e) k = refl

pub ends_last : (w : Stop) → w ≡ Ended → (v : Outcome) (s : State Folder) (t : List ℕ) (a b : Option (List ℕ)) → Writes a b t v
    → (last_book answering s ≡ end_book w s) × Goes (Err Ended) (Err w) v t a b
ends_last w e v s t a b q = (rw e refl, prints (Err Ended) (Err w) t a v b (rw e refl) q)
