-- What a run of the program writes, and when each status comes.
use Rattle.std.specs.Prelude.{ℕ, ◌≤◌, ◌⊎◌, List, ◌++◌, length, codes}
use Rattle.vfa_io.specs.Bytes.{GotPrefix}
use Rattle.vfa_io.specs.States.{SourceState, SinkState, Change, SinkFailed, Got, GotNothing}
use Rattle.vfa_print.specs.Layout.{line_feed}
use Rattle.vfa.specs.declared.command.Command.{Command}
use Rattle.vfa.specs.declared.refusals.Refusal.{Refusal}
use Rattle.vfa_opt.specs.Module.{Piece, IsModule, IsModuleText}
use Rattle.vfa_opt.specs.Sound.{IsSoundFor}
use Rattle.vfa.specs.Refusals.{most, refusal_text}
use Rattle.vfa.specs.Stops.{IsRefusedFor}

-- ---- messages

abbrev pub usage_line : List ℕ
usage_line =
    codes "usage: vfa opt|facts|ask|self [--workers N] [--strict] [--function F --value V --block B [--from P]] [--seed N]"
    ++ line_feed

abbrev pub fault_read : List ℕ
fault_read = codes "fault: read" ++ line_feed

-- the sink got the message, or a prefix of it where its count of faults rose
abbrev pub Reports : Change SinkState → List ℕ → Type 0
Reports err message = Got err message ⊎ (SinkFailed err × GotPrefix err.before.written err.now.written message)

-- ---- answers

-- The command's text of the input's module and the notes on it. What `opt` writes for an accepted function reads as a
-- function which refines it, and prints each of its operands that its table knows to be one number as that number. What `facts`
-- writes for one is the report by its table, each line of which holds whenever a run of the function comes to the line's place. What
-- `ask` writes is what the table of the one function says of the value at the place, and it holds whenever a run comes there. What
-- `self` writes is the summary of `opt` on the generated text.
pub record IsAnswer (command : Command) (input text notes : List ℕ) : Type 0 where
  pub within : length input ≤ most
  pub is : IsModuleText command.job command.strict input text notes
  pub sound : (pieces : List Piece) → IsModule command.strict input pieces → IsSoundFor command.job pieces

-- ---- ends

-- out got the answer's text, and err the notes
pub record IsDone (command : Command) (input : List ℕ) (out err : Change SinkState) : Type 0 where
  pub text : List ℕ
  pub notes : List ℕ
  pub answer : IsAnswer command input text notes
  pub text_got : Got out text
  pub notes_got : Got err notes

-- the input is refused for a reason that is reported, and this was read of it
pub record IsRefused (command : Command) (input : List ℕ) (source : Change SourceState) (err : Change SinkState) : Type 0 where
  pub reason : Refusal
  pub refused : IsRefusedFor command input source reason
  pub says : Reports err (refusal_text reason)

-- out's count rose while the text was written, and out got a prefix of it and err nothing
pub record StoppedInText (out err : Change SinkState) (text : List ℕ) : Type 0 where
  pub failed : SinkFailed out
  pub got : GotPrefix out.before.written out.now.written text
  pub silent : GotNothing err

-- err's count rose while the notes were written, and out got all of the text and err a prefix of the notes
pub record StoppedInNotes (out err : Change SinkState) (text notes : List ℕ) : Type 0 where
  pub failed : SinkFailed err
  pub whole : Got out text
  pub got : GotPrefix err.before.written err.now.written notes

pub record IsWriteFault (command : Command) (input : List ℕ) (out err : Change SinkState) : Type 0 where
  pub text : List ℕ
  pub notes : List ℕ
  pub answer : IsAnswer command input text notes
  pub stopped : StoppedInText out err text ⊎ StoppedInNotes out err text notes
