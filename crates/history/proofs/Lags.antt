-- What the line's lag says of a later phase matters nowhere: any arithmetic that is the line's of the others makes the same runs.
-- Assumes nothing.
use mathlib.Core.Path.{◌≡◌, refl, ap, sym, ◌∙◌}
use mathlib.Core.Option.{Option, none, some}
use mathlib.Core.List.{List, [], ◌∷◌}
use Prim.Native.Nat.{ℕ, ◌-◌, ◌≤◌}
use native.Mathlib.Omega.{arith}
use Rattle.ring.specs.Phases.{Phases, line}
use Rattle.rules.specs.Setups.{Setup}
use Rattle.rules.specs.Model.{Row, Held, Tables, Label, Act, Result, row_in, phases, step}
use Rattle.rules.specs.Calls.{Book, Call, start, on, Turn, fresh_book, turn_of, line_of, call}
use Rattle.tools.specs.Tables.{Each}
use Rattle.history.specs.Lags.{Past, NoneAhead, TrueLag}
use Rattle.history.specs.Round.{map_held, map_tables, map_stamp, map_shown, map_result}
use Rattle.history.specs.Runs.{run}
use Rattle.history.proofs.Past.{fresh_past, call_past}
use Rattle.history.proofs.Map.{Agrees, KeepsAll, step_map}

-- the line is such an arithmetic
pub line_true : TrueLag line
line_true = record { lag = λ own v l. omega arith; next = λ v. omega arith }

-- the map that leaves each phase as it is
abbrev pub same : ℕ → ℕ → ℕ
same k v = v

same_held : (o : Option Held) → map_held same o ≡ o
same_held none = refl
same_held (some w) = refl

same_stamp : (o : Option Label) → map_stamp same o ≡ o
same_stamp none = refl
same_stamp (some e) = refl

same_shown : (o : Option Row) → map_shown same o ≡ o
same_shown none = refl
same_shown (some r) = refl

same_tables : (b : Tables) → map_tables same b ≡ b
same_tables b =
    λ i. record { seat = b.seat; mail = λ p. same_held (b.mail p) i; shelf = λ s. same_held (b.shelf s) i }

same_result : (r : Result) → map_result same r ≡ r
same_result r =
    let v = r.answer.value in
    λ i. record {
      answer = record {
        number = r.answer.number;
        value = record {
          place = v.place;
          stamp = same_stamp v.stamp i;
          learnt = v.learnt;
          slot = v.slot;
          verdict = v.verdict;
          relation = v.relation;
          odds = v.odds;
          foretold = v.foretold;
          row = same_shown v.row i;
        };
      };
      tables = same_tables r.tables i;
    }

-- two arithmetics that go on alike and lag alike wherever a book asks make the same step of it
pub step_same : (Z Y : Phases) (X : Setup) (b : Tables) → Agrees Z Y same X b → (c : Act) → step Z X b c ≡ step Y X b c
step_same Z Y X b w c =
    ap (λ (d : Tables). step Z X d c) (sym (same_tables b)) ∙ step_map Z Y same X b w c ∙ same_result (step Y X b c)

module _ (Z : Setup → Phases) (t : (Y : Setup) → TrueLag (Z Y)) where
  module _ (X : Setup) (b : Tables) (w : NoneAhead b) where
    lag_is : (k v : ℕ) → v ≤ phases b k → (Z X).lag (phases b k) v ≡ phases b k - v
    lag_is k v l = let e = (t X).lag (phases b k) v (omega arith) in omega arith

    held_keeps : (o : Option Held) → Past b (row_in o) → Each (KeepsAll (Z X) line same b) o
    held_keeps none l = tt
    held_keeps (some m) l = λ k. lag_is k (m.row k).phase (l k)

    line_agrees : Agrees (Z X) line same X b
    line_agrees =
        record {
          nexts = λ k v. let e = (t X).next v in omega arith;
          seats = λ s k l. lag_is k ((b.seat s).row k).phase (w.seats s k);
          mail = λ p. held_keeps (b.mail p) (w.mail p);
          shelf = λ s. held_keeps (b.shelf s) (w.shelf s);
        }

  same_call : (b : Book) → NoneAhead b.tables → (c : Call) → call Z b c ≡ call line_of b c
  unfolding call
  same_call b w (start X) = refl
  same_call b w (on c) =
      let X = b.setup in
      ap (turn_of X) (step_same (Z X) line X b.tables (line_agrees X b.tables w) c)

  same_run : (b : Book) → NoneAhead b.tables → (cs : List Call) → run Z b cs ≡ run line_of b cs
  unfolding run
  same_run b w [] = refl
  same_run b w (c ∷ cs) =
      ap (λ (u : Turn). u ∷ run Z u.book cs) (same_call b w c)
      ∙ ap (λ us. call line_of b c ∷ us) (same_run (call line_of b c).book (call_past line_of (λ Y v. omega arith) b w c) cs)

  -- THE LAW: whatever an arithmetic says of later phases, every turn of every run is that of the line
  pub any_later : (X : Setup) (cs : List Call) → run Z (fresh_book X) cs ≡ run line_of (fresh_book X) cs
  any_later X cs = same_run (fresh_book X) fresh_past cs
