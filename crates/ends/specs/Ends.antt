-- How the program meets its two ends, standard input and standard output.
-- Assumes nothing.
--   Outcome              that the run goes on, or why it stops
--   failure_of k bad     what becomes of the run where a call fails for a reason of the kind k: one that is not ready (EAGAIN) and one
--                        that a signal interrupts (EINTR) go on with no byte moved, as the call is made again, a broken pipe (EPIPE)
--                        says that nobody reads any more, any other is `bad`
--   kind_by n k          the kind of the system's number n, where there is one; else k
--   reason_kind e        the kind of the reason e, by its number
--   failure_went e bad   what becomes of the run where a call fails for the reason e
--   number_went n bad    the same by the system's number: EAGAIN (11) and EINTR (4) go on, EPIPE (32) says that nobody reads any more,
--                        any other is `bad`
--   call_went r empty bad   how many bytes a call moves that answers r, or why the run stops: `empty` where it moves none, `bad e` where
--                        it fails for a reason e of no kind above
--   read_went r          the same of a read: no byte is the end of the input
--   write_went r         the same of a write, which moves a byte or fails
--   Told w n             the run went w where n bytes of what it prints are not written: it goes on only where there are none
--   Writes a b t w       a writer that held a, where that is known, holds b: behind a stands a part of the text t, and the run went w
--                        where the rest of t is not written
--   outcome r, moved r   whether the run goes on after a call, and how many bytes that has moved, none where the run stops
--   Goes u v w t a b     the run had gone v, and goes w: where v is u, the text t is what that prints, as `Writes` says; else it goes as
--                        it had, and prints nothing
--   end_book w s         the book and papers at the end of a run that stopped for w, from the state s on: only the end of the input
--                        answers a begun line
--   word_of w            what the program says on standard error at its end, before the reason; no word where it is quiet
use Rattle.std.specs.Prelude.{ℕ, zero, suc, ◌<◌, ◌≤◌, ◌-◌, ◌≡◌, ◌||◌, List, [], length, take, ℤ, pos, negsuc, eqb, Result, Ok, Err, Option, Some, None}
use Rattle.std.specs.IoError.{error_kind, raw_os_error, os_error_kind}
use Rattle.std.specs.Io.KnownBytes.{Appends, Keeps}
use Rattle.std.specs.declared.io.Error.{Error}
use Rattle.std.specs.declared.io.ErrorKind.{ErrorKind}
use Rattle.std.specs.declared.io.ErrorKind.TheVariants.{WouldBlock, Interrupted, BrokenPipe}
use Rattle.tools.specs.Tests.{pick}
use Rattle.text.specs.Words.{ascii}
use Rattle.text.specs.Stream.{State, last_book}
use Rattle.office.specs.Office.{Folder}
use Rattle.answering.specs.Answering.{answering}
use Rattle.ends.specs.declared.Stop.{Stop}
use Rattle.ends.specs.declared.Stop.TheVariants.{Ended, Gone, Unread, Unwritten}

abbrev pub Outcome : Type 0
Outcome = Result (Unit {0}) Stop

abbrev pub failure_of : ErrorKind → Stop → Result ℕ Stop
failure_of WouldBlock bad = Ok 0
failure_of Interrupted bad = Ok 0
failure_of BrokenPipe bad = Err Gone
failure_of _ bad = Err bad

abbrev pub kind_by : Option ℤ → ErrorKind → ErrorKind
kind_by (Some n) k = os_error_kind n
kind_by None k = k

abbrev pub reason_kind : Error → ErrorKind
reason_kind e = kind_by (raw_os_error e) (error_kind e)

abbrev pub failure_went : Error → Stop → Result ℕ Stop
failure_went e bad = failure_of (reason_kind e) bad

abbrev pub number_went : ℤ → Stop → Result ℕ Stop
number_went (pos n) bad = pick (eqb n 11 || eqb n 4) (Ok 0) (pick (eqb n 32) (Err Gone) (Err bad))
number_went (negsuc n) bad = Err bad

abbrev pub call_went : Result ℕ Error → Stop → (Error → Stop) → Result ℕ Stop
call_went (Ok zero) empty bad = Err empty
call_went (Ok (suc n)) empty bad = Ok (suc n)
call_went (Err e) empty bad = failure_went e (bad e)

abbrev pub read_went : Result ℕ Error → Result ℕ Stop
read_went r = call_went r Ended (λ e. Unread (Some e))

abbrev pub write_went : Result ℕ Error → Result ℕ Stop
write_went r = call_went r (Unwritten None) (λ e. Unwritten (Some e))

abbrev pub Told : Outcome → ℕ → Type 0
Told (Ok u) n = n ≡ 0
Told (Err Ended) n = ⊥
Told (Err Gone) n = 0 < n
Told (Err (Unread e)) n = ⊥
Told (Err (Unwritten e)) n = 0 < n

abbrev pub Writes : Option (List ℕ) → Option (List ℕ) → List ℕ → Outcome → Type 0
Writes a b t w = (k : ℕ) × Appends a b (take k t) × (k ≤ length t) × Told w (length t - k)

abbrev pub outcome : Result ℕ Stop → Outcome
outcome (Ok n) = Ok tt
outcome (Err w) = Err w

abbrev pub moved : Result ℕ Stop → ℕ
moved (Ok n) = n
moved (Err w) = 0

abbrev pub Goes : Outcome → Outcome → Outcome → List ℕ → Option (List ℕ) → Option (List ℕ) → Type 0
Goes u v w t a b = (v ≡ u → Writes a b t w) × ((v ≡ u → ⊥) → (w ≡ v) × Keeps a b)

abbrev pub end_book : Stop → State Folder → Folder
end_book Ended s = last_book answering s
end_book Gone s = s.book
end_book (Unread e) s = s.book
end_book (Unwritten e) s = s.book

abbrev pub word_of : Stop → List ℕ
word_of Ended = []
word_of Gone = []
word_of (Unread e) = ascii "desks: standard input"
word_of (Unwritten e) = ascii "desks: standard output"
