-- The run on the line with its history: the accepted events, and the event behind each mail place and slot.
-- Assumes nothing. In words: docs/RULES.md, "As if phases never came round".
--   Kind           which of the four events; a receive with the number of its send
--   cause w        the send that a receive takes in
--   is_reset w     the event is a reset
--   Log            the accepted events since the last accepted start, numbered from 0
--   History        a log, and the event behind each mail place and each slot
--   none_yet       the history after a start
--   Link, Leads    a link from event to event of the log; a chain of links
--   logged h j w r the log with one more event: at desk j, of kind w, which leaves row r
--   noted          the history with that event, which is behind its slot s where it is kept, and the mail's events as given
--   adds h b c     the history after an accepted act
--   State          a book of the line with its history
--   begin X        the state after a start with the setup X
--   history_of s c what an accepted call makes of the history
--   next s c       the state after a call, its history as it was where the call is refused; after s cs, after a list of calls
--   log_after X cs the log of the calls cs, from a fresh book of X on; setup_after X cs, the setup then
use Rattle.std.specs.Prelude.{◌≡◌, Bool, true, false, List, [], ◌∷◌, ℕ, suc, ◌<◌}
use Rattle.std.proofs.Math.Option.{Option, none, some}
use Rattle.tools.specs.Tables.{put, put_at}
use Rattle.tools.specs.Reasons.{if_done}
use Rattle.ring.specs.Phases.{line}
use Rattle.rules.specs.Setups.{Setup}
use Rattle.rules.specs.Model.{
  Row,
  Tables,
  Act,
  local,
  reset,
  send,
  receive,
  drop,
  discard,
  ask,
  grown,
  merged,
  turned,
  free_mail,
  slot_for,
  row_in,
  zeros,
}
use Rattle.rules.specs.Calls.{Book, Call, start, on, line_of, fresh_book, call}

pub data Kind : Type 0 where
  Local Send Reset : Kind
  Receive : ℕ → Kind

-- the send that a receive takes in
abbrev pub cause : Kind → Option ℕ
cause Local = none
cause Send = none
cause Reset = none
cause (Receive e) = some e

abbrev pub is_reset : Kind → Bool
is_reset Local = false
is_reset Send = false
is_reset Reset = true
is_reset (Receive e) = false

pub record Log : Type 0 where
  pub count : ℕ
  pub desk : ℕ → ℕ
  pub kind : ℕ → Kind
  pub row : ℕ → Row

pub record History : Type 0 where
  pub log : Log
  pub mailed : ℕ → ℕ
  pub kept : ℕ → ℕ

abbrev pub none_yet : History
none_yet =
    record {
      log = record { count = 0; desk = λ e. 0; kind = λ e. Local; row = λ e. zeros };
      mailed = λ p. 0;
      kept = λ s. 0;
    }

-- each link goes to a later event of the log at the same desk, or from a send to the receipt of that mail
pub data Link (h : Log) : ℕ → ℕ → Type 0 where
  desk_link : {e f : ℕ} → e < f → f < h.count → h.desk e ≡ h.desk f → Link h e f
  mail_link : {e f : ℕ} → f < h.count → cause (h.kind f) ≡ some e → Link h e f

pub data Leads (h : Log) : ℕ → ℕ → Type 0 where
  one : {e f : ℕ} → Link h e f → Leads h e f
  more : {e f g : ℕ} → Leads h e f → Link h f g → Leads h e g

abbrev pub logged : Log → ℕ → Kind → Row → Log
logged h j w r =
    record {
      count = suc h.count;
      desk = put h.desk h.count j;
      kind = put h.kind h.count w;
      row = put h.row h.count r;
    }

abbrev pub noted : History → ℕ → Kind → Row → Option ℕ → (ℕ → ℕ) → History
noted h j w r s mailed =
    record { log = logged h.log j w r; mailed = mailed; kept = put_at h.kept s h.log.count }

unfoldable pub adds : History → Tables → Act → History
adds h b (local j q) = noted h j Local (grown b j) (slot_for b q) h.mailed
adds h b (send j k q) = noted h j Send (grown b j) (slot_for b q) (put h.mailed (free_mail b) h.log.count)
adds h b (receive j p q) =
    noted h j (Receive (h.mailed p)) (merged line b j (row_in (b.mail p))) (slot_for b q) h.mailed
adds h b (reset j q) = noted h j Reset (turned line b j) (slot_for b q) h.mailed
adds h b (drop s) = h
adds h b (discard p) = h
adds h b (ask q) = h

pub record State : Type 0 where
  pub book : Book
  pub history : History

abbrev pub begin : Setup → State
begin X = record { book = fresh_book X; history = none_yet }

-- what an accepted call makes of the history
abbrev pub history_of : State → Call → History
history_of s (start X) = none_yet
history_of s (on c) = adds s.history s.book.tables c

unfoldable pub next : State → Call → State
next s c =
    let t = call line_of s.book c in
    record { book = t.book; history = if_done t.answer.number (history_of s c) s.history }

unfoldable pub after : State → List Call → State
after s [] = s
after s (c ∷ cs) = after (next s c) cs

abbrev pub log_after : Setup → List Call → Log
log_after X cs = (after (begin X) cs).history.log

abbrev pub setup_after : Setup → List Call → Setup
setup_after X cs = (after (begin X) cs).book.setup
