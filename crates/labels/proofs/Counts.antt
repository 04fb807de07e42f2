-- What the rows of records are held to, and that what keeps to it reads.
-- Assumes nothing.
use Prim.Native.Nat.{ℕ, ◌+◌, ◌≤◌, ◌<◌}
use mathlib.Core.Path.{◌≡◌, refl, sym, ap, ◌∙◌}
use mathlib.Core.Bool.{Bool, true, false, ◌&&◌, true≢false}
use mathlib.Core.Logic.{◌⊎◌, inl, inr}
use mathlib.Core.Option.{none, some}
use mathlib.Core.List.{List, [], ◌∷◌}
use native.Mathlib.Omega.{arith}
use borrow.Author.Tests.{eq-eqb, ne_eqb, eqb-true, ltb-true, ltb-false, lt-ltb}
use lib.Dec.{ltb, eqb}
use lib.ListN.{length, set}
use Rattle.tools.specs.Tests.{pick, all_of, all_below}
use Rattle.tools.specs.Lists.{byte}
use Rattle.tools.specs.Tables.{put}
use Rattle.tools.proofs.Tests.{eq_or_ne, and_true_l, and_true_r, below_one, same_by_lem, each}
use Rattle.tools.proofs.Lists.{tab_at}
use Rattle.ring.specs.Phases.{Pair}
use Rattle.rules.specs.Setups.{Setup, limit}
use Rattle.rules.specs.declared.Refusal.TheVariants.{BadStamp}
use Rattle.rules.specs.Model.{Row}
use Rattle.rules.specs.Replies.{phase_spot, clock_spot, row_byte, row_bytes}
use Rattle.rules.proofs.RowBytes.{row_phase, row_clock, rows_alike}
use Rattle.book.proofs.Rows.{set_pair}
use Rattle.book.specs.Stamps.{label_of, pair_reads, read_ok, read_stamp}
use Rattle.std.specs.Prelude.{Ok, Err}
use Rattle.labels.specs.Counts.{capped, count_row, Counts, row_reads, head_reads}
use Rattle.labels.specs.Asked.{owner_read}
use Rattle.labels.proofs.Records.{Clauses, read_clauses, clauses_read}

not_true : (t : Bool) → (t ≡ true → ⊥) → t ≡ false
not_true true n = absurd (n refl)
not_true false n = refl

-- a byte is below a count exactly where it is below the cap of it
below_cap : (v n : ℕ) → v < 256 → ltb v (capped n) ≡ ltb v n
unfolding capped
below_cap v n b = go (ltb 256 n) refl
  where
    go : (t : Bool) → ltb 256 n ≡ t → ltb v (pick t 256 n) ≡ ltb v n
    go true e = let l : 256 < n = ltb-true 256 n e in rw (lt-ltb v 256 (omega arith), lt-ltb v n (omega arith))
    go false e = refl

-- how many numbers each desk has
module _ (P : ℕ) (ls : List ℕ) where
  -- those of one desk more
  pub counts_more : (j p q x y : ℕ) (l : List ℕ) → l ≡ row_bytes (count_row j P ls) → j < 8 → p ≡ phase_spot j → q ≡ clock_spot j
      → x ≡ capped P → y ≡ capped (byte ls j) → set (set l p x) q y ≡ row_bytes (count_row (j + 1) P ls)
  counts_more j p q x y l e m ep eq ex ey =
      rw (e, ep, eq, ex, ey)
      (set_pair (count_row j P ls) j m pair
      ∙ rows_alike (put (count_row j P ls) j pair) (count_row (j + 1) P ls) (λ k n. go k (eq_or_ne k j)))
    where
      pair : Pair
      pair = record { phase = capped P; clock = capped (byte ls j) }

      go : (k : ℕ) → (k ≡ j) ⊎ (k ≡ j → ⊥) → put (count_row j P ls) j pair k ≡ count_row (j + 1) P ls k
      go k (inl e) = rw (eq-eqb k j e, lt-ltb k (j + 1) (omega arith)) (rw e)
      go k (inr n) =
          rw (ne_eqb k j n)
          (ap (λ (t : Bool). pick {A = Pair} t (record { phase = capped P; clock = capped (byte ls k) }) (record { phase = 1; clock = 1 }))
          (same_by_lem k j k (j + 1) (λ l. omega arith) (λ l. omega arith)))

  -- no row has more than eight
  pub counts_all : (n D : ℕ) → n ≡ pick (ltb D 8) D 8 → (n ≤ 8) × (row_bytes (count_row n P ls) ≡ row_bytes (count_row D P ls))
  counts_all n D e = go (ltb D 8) refl e
    where
      go : (t : Bool) → ltb D 8 ≡ t → n ≡ pick t D 8 → (n ≤ 8) × (row_bytes (count_row n P ls) ≡ row_bytes (count_row D P ls))
      go true l e = let m : D < 8 = ltb-true D 8 l in (omega arith, rw e)
      go false l e =
          let m : 8 ≤ D = ltb-false D 8 l in
          (omega arith, rows_alike (count_row n P ls) (count_row D P ls) (λ j k. rw (lt-ltb j n (omega arith), lt-ltb j D (omega arith))))

-- a pair of bytes is below them exactly where it reads
pub pair_counted : (X : Setup) (l : List ℕ) (j v t : ℕ) → Counts X l → j < 8 → v < 256 → t < 256
    → (ltb v (byte l (phase_spot j)) && ltb t (byte l (clock_spot j))) ≡ pair_reads X j (record { phase = v; clock = t })
unfolding row_bytes pair_reads all_of
pair_counted X l j v t e m a b =
    rw (
      e,
      tab_at 16 (row_byte row) (phase_spot j) (omega arith),
      tab_at 16 (row_byte row) (clock_spot j) (omega arith),
      row_phase row j,
      row_clock row j,
      pair_reads,
    )
    (go (ltb j X.desks))
  where
    row : Row
    row = count_row X.desks X.phases X.limits

    counts : Pair
    counts = record { phase = capped X.phases; clock = capped (limit X j) }

    go : (u : Bool)
        → (ltb v (pick u counts (record { phase = 1; clock = 1 })).phase && ltb t (pick u counts (record { phase = 1; clock = 1 })).clock)
        ≡ pick u (all_of (ltb v X.phases ∷ ltb t (limit X j) ∷ [])) (all_of (eqb v 0 ∷ eqb t 0 ∷ []))
    go true = rw (below_cap v X.phases a, below_cap t (limit X j) b)
    go false = rw (below_one v, below_one t)

-- a record reads exactly where its row does and what stands before it
module _ (X : Setup) (r : List ℕ) where
  part_clauses : row_reads X r ≡ true → head_reads X.desks r ≡ true → Clauses X r
  unfolding row_reads head_reads
  part_clauses a b =
      record {
        size = eqb-true _ _ (and_true_l (eqb (length r) 20) _ a);
        mark0 = eqb-true _ _ (each _ b 0);
        mark1 = eqb-true _ _ (each _ b 1);
        owner = ltb-true _ _ (each _ b 2);
        desks = eqb-true _ _ (each _ b 3);
        pairs = and_true_r (eqb (length r) 20) (all_below 8 (λ j. pair_reads X j ((label_of r).row j))) a;
      }

  clauses_parts : Clauses X r → (row_reads X r && head_reads X.desks r) ≡ true
  unfolding row_reads head_reads all_of
  clauses_parts h =
      rw (
        row_reads,
        head_reads,
        eq-eqb _ _ h.size,
        h.pairs,
        eq-eqb _ _ h.mark0,
        eq-eqb _ _ h.mark1,
        lt-ltb _ _ h.owner,
        eq-eqb _ _ h.desks,
      )

  read_both : (row_reads X r && head_reads X.desks r) ≡ read_ok X r
  read_both = go (read_ok X r) refl
    where
      none : (t : Bool) → (row_reads X r && head_reads X.desks r) ≡ t → read_ok X r ≡ false → t ≡ false
      none true e n =
          let h = part_clauses (and_true_l (row_reads X r) _ e) (and_true_r (row_reads X r) (head_reads X.desks r) e) in
          absurd (true≢false (sym (clauses_read X r h) ∙ n))
      none false e n = refl

      go : (t : Bool) → read_ok X r ≡ t → (row_reads X r && head_reads X.desks r) ≡ t
      go true e = clauses_parts (read_clauses X r e)
      go false e = none (row_reads X r && head_reads X.desks r) refl e

  -- so its owner is told, or it is refused
  pub who_is : (t : Bool) → (row_reads X r && head_reads X.desks r) ≡ t
      → pick t (Ok (byte r 2)) (Err BadStamp) ≡ owner_read (read_stamp X r)
  unfolding read_stamp
  who_is t e = rw (read_stamp, sym read_both ∙ e) (go t)
    where
      go : (t : Bool) → pick t (Ok (byte r 2)) (Err BadStamp) ≡ owner_read (pick t (some (label_of r)) none)
      go true = refl
      go false = refl

  -- and bytes that are no record are refused
  pub who_none : (length r ≡ 20 → ⊥) → Err BadStamp ≡ owner_read (read_stamp X r)
  unfolding read_stamp
  who_none n = rw (read_stamp, not_true (read_ok X r) (λ h. n (read_clauses X r h).size))
