-- The bytes that a command works on.
use Rattle.std.proofs.Common.{◌≡◌, ℕ, Bool, true, List, length, refl, sym, ◌∙◌, subst}
use Rattle.std.specs.Prelude.{Option, Some, None}
use Rattle.command_words.specs.declared.words.Command.{Command}
use Rattle.command_words.specs.declared.words.Command.TheVariants as command
use Rattle.command_words.specs.Asking.{most_bytes}
use Rattle.fut_driver.specs.declared.input.Input.{Input}
use Rattle.fut_driver.specs.declared.input.Input.TheVariants as input
use Rattle.fut_driver.specs.declared.form.Form.{Form}
use Rattle.fut_driver.specs.Reading.{ReadsAll, IsInputOf}
use Rattle.fut_driver.specs.Verdict.{Reads, IsAllOf, IsTaken, IsLeft, AsksRun, IsGiven}
use Rattle.fut_driver.proofs.Consuming.{all_left}

-- ---- commands that read

-- what a command that reads works on is all that the source had
pub all_of : (c : Command) (old new : Option (List ℕ)) (ended : Bool) (bytes : List ℕ) → Reads c → IsTaken c old new ended bytes → IsAllOf old new ended bytes
all_of command.Check old new ended bytes reads taken = taken
all_of command.Replay old new ended bytes reads taken = taken
all_of (command.Run _ _ _) old new ended bytes reads taken = taken
all_of (command.Load _ _ _) old new ended bytes reads taken = absurd reads

pub is_taken : (c : Command) (old new : Option (List ℕ)) (ended : Bool) (bytes : List ℕ) → Reads c → IsAllOf old new ended bytes → IsTaken c old new ended bytes
is_taken command.Check old new ended bytes reads all = all
is_taken command.Replay old new ended bytes reads all = all
is_taken (command.Run _ _ _) old new ended bytes reads all = all
is_taken (command.Load _ _ _) old new ended bytes reads all = absurd reads

pub was_left : (c : Command) (left : Option (List ℕ)) (bytes : List ℕ) → Reads c → IsLeft c left bytes → left ≡ Some bytes
was_left command.Check left bytes reads is = is
was_left command.Replay left bytes reads is = is
was_left (command.Run _ _ _) left bytes reads is = is
was_left (command.Load _ _ _) left bytes reads is = absurd reads

-- a source that was read gives a command that reads what it works on
pub read_input : (c : Command) (old new : Option (List ℕ)) (ended : Bool) (before now : ℕ) (r : Input) → Reads c
    → ReadsAll (most_bytes c) old new ended before now r → IsInputOf c old new ended before now r
read_input c old new ended before now (input.Whole bytes) reads all = (all.0, is_taken c old new ended bytes.items reads (all.1, all.2, all.3), all.4)
read_input c old new ended before now input.TooLong reads all = (all.0, reads, all.1, all.2, all.3)
read_input c old new ended before now input.Failed reads all = (reads, all.0, all.1)
read_input c old new ended before now input.NoMemory reads all = all

-- ---- all commands

-- over a source that tells nothing the same bytes may be taken
pub untold : (c : Command) (old new : Option (List ℕ)) (ended : Bool) (bytes : List ℕ) → IsTaken c old new ended bytes → IsTaken c None None true bytes
untold command.Check old new ended bytes taken = (tt, tt, refl)
untold command.Replay old new ended bytes taken = (tt, tt, refl)
untold (command.Run _ _ _) old new ended bytes taken = (tt, tt, refl)
untold (command.Load _ _ _) old new ended bytes taken = (taken.0, refl)

all_is : (old new : Option (List ℕ)) (ended : Bool) (bytes left : List ℕ) → old ≡ Some left → IsAllOf old new ended bytes → bytes ≡ left
all_is old new ended bytes left is all = all_left old new bytes left is all.0 all.1

-- what is taken is what was left
pub taken_is_left : (c : Command) (old new : Option (List ℕ)) (ended : Bool) (bytes left : List ℕ) → IsLeft c old left → IsTaken c old new ended bytes
    → bytes ≡ left
taken_is_left command.Check old new ended bytes left is taken = all_is old new ended bytes left is taken
taken_is_left command.Replay old new ended bytes left is taken = all_is old new ended bytes left is taken
taken_is_left (command.Run _ _ _) old new ended bytes left is taken = all_is old new ended bytes left is taken
taken_is_left (command.Load _ _ _) old new ended bytes left is taken = taken.0 ∙ sym is

-- of two sources that had the same the same is taken
pub one_taken : (c : Command) (old new : Option (List ℕ)) (ended : Bool) (bytes : List ℕ) (old' new' : Option (List ℕ)) (ended' : Bool) (bytes' left : List ℕ)
    → old ≡ Some left → old' ≡ Some left → IsTaken c old new ended bytes → IsTaken c old' new' ended' bytes' → bytes ≡ bytes'
one_taken command.Check old new ended bytes old' new' ended' bytes' left is is' x y =
    all_is old new ended bytes left is x ∙ sym (all_is old' new' ended' bytes' left is' y)
one_taken command.Replay old new ended bytes old' new' ended' bytes' left is is' x y =
    all_is old new ended bytes left is x ∙ sym (all_is old' new' ended' bytes' left is' y)
one_taken (command.Run _ _ _) old new ended bytes old' new' ended' bytes' left is is' x y =
    all_is old new ended bytes left is x ∙ sym (all_is old' new' ended' bytes' left is' y)
one_taken (command.Load _ _ _) old new ended bytes old' new' ended' bytes' left is is' x y = x.0 ∙ sym y.0

-- a command that asks for a run works on a program text
pub given_whole : (c : Command) (bound : ℕ) (due : Form) (workers : ℕ) (bytes : List ℕ) → AsksRun c bound due workers → IsGiven c bytes bytes
given_whole command.Check bound due workers bytes asked = absurd asked
given_whole command.Replay bound due workers bytes asked = absurd asked
given_whole (command.Run _ _ _) bound due workers bytes asked = refl
given_whole (command.Load _ _ _) bound due workers bytes asked = refl
