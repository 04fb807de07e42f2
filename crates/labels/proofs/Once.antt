-- Two readings that meet the statement of read are equal.
-- Assumes nothing.
use Prim.Native.Nat.{ℕ}
use mathlib.Core.Path.{◌≡◌, sym, ap}
use mathlib.Core.List.{List}
use lib.ListN.{length}
use Rattle.tools.proofs.Tables.{some_is, none_some}
use Rattle.rules.specs.Model.{Label, Answer}
use Rattle.rules.proofs.RowBytes.{row_once}
use Rattle.std.specs.Prelude.{Result, Ok, Err}
use Rattle.rules.specs.declared.Refusal.{Refusal}
use Rattle.rules.proofs.Once.{name_once}
use Rattle.labels.specs.declared.Reading.{Reading}
use Rattle.labels.specs.Records.{owner_says, read_says, row_beside}

pub reading_once : (r r' : Reading) → read_says r ≡ read_says r' → row_beside r.who r.row → row_beside r'.who r'.row
    → length r.row ≡ 16 → length r'.row ≡ 16 → r ≡ r'
reading_once r r' e b b' n n' = go r.who r.row r'.who r'.row e b b' n n'
  where
    go : (w : Result ℕ Refusal) (l : List ℕ) (w' : Result ℕ Refusal) (l' : List ℕ) → owner_says w l ≡ owner_says w' l'
        → row_beside w l → row_beside w' l'
        → length l ≡ 16 → length l' ≡ 16
        → ◌≡◌ {A = Reading} (record { who = w; row = l }) (record { who = w'; row = l' })
    go (Ok j) l (Ok j') l' e b b' n n' =
        let v = some_is (ap (λ (a : Answer). a.value.stamp) e) in
        let o = ap (λ (x : Label). x.owner) v in
        let s = row_once l l' n n' (ap (λ (x : Label). x.row) v) in
        λ i. record { who = Ok (o i); row = s i }
    go (Ok j) l (Err m) l' e b b' n n' = absurd (none_some (sym (ap (λ (a : Answer). a.value.stamp) e)))
    go (Err m) l (Ok j) l' e b b' n n' = absurd (none_some (ap (λ (a : Answer). a.value.stamp) e))
    go (Err m) l (Err m') l' e b b' n n' =
        let v = name_once m m' (ap (λ (a : Answer). a.number) e) in
        let s : l ≡ l' = cc in
        λ i. record { who = Err (v i); row = s i }
