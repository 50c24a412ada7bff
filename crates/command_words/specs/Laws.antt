-- A law of words.
use Rattle.std.specs.Prelude.{◌≡◌, ℕ, Bool, List}
use Rattle.command_words.specs.declared.words.Command.{Command}
use Rattle.command_words.specs.Asking.{AreWordsOf}

-- the same words are those of one command at most
abbrev pub OneCommand : Type 0
OneCommand = (may_run : Bool) (words : List (List ℕ)) (c d : Command) → AreWordsOf may_run words c → AreWordsOf may_run words d → c ≡ d
