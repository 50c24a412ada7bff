-- What the words of a command line ask for.
use Rattle.std.specs.Prelude.{◌≡◌, ℕ, ◌+◌, ◌≤◌, Bool, true, false, nat_lt, List, [], ◌∷◌, ◌++◌, codes, decimal, Option, Some, None, ◌⊎◌}
use Rattle.command_words.specs.declared.options.TheConstants.{MOST_SIDE}
use Rattle.command_words.specs.declared.options.Kind.{Kind}
use Rattle.command_words.specs.declared.options.Kind.TheVariants as kind
use Rattle.fut_base.specs.declared.limits.TheConstants.{MOST_ENTRIES, MOST_PROGRAM_BYTES, MOST_RECORD_BYTES, MOST_WORKERS}
use Rattle.command_words.specs.declared.options.Choice.{Choice}
use Rattle.command_words.specs.declared.options.Choice.TheVariants as choice
use Rattle.command_words.specs.declared.words.Command.{Command}
use Rattle.command_words.specs.declared.words.Command.TheVariants as command

-- ---- the options of a run

-- how an option is written: `--events` or `--workers` and a decimal number, `--brief`, or the side of the grid, a decimal number alone
abbrev pub spelling : Choice → List (List ℕ)
spelling (choice.Events bound) = codes "--events" ∷ decimal bound ∷ []
spelling choice.Brief = codes "--brief" ∷ []
spelling (choice.Workers workers) = codes "--workers" ∷ decimal workers ∷ []
spelling (choice.Side side) = decimal side ∷ []

-- options written one after the other
abbrev pub spellings : List Choice → List (List ℕ)
spellings [] = []
spellings (c ∷ cs) = spelling c ++ spellings cs

-- a number from one to this one
abbrev pub IsFromOneTo : ℕ → ℕ → Type 0
IsFromOneTo most n = (1 ≤ n) × (n ≤ most)

-- the numbers of entries that a run may be bounded by
abbrev pub IsBound : ℕ → Type 0
IsBound events = IsFromOneTo MOST_ENTRIES events

-- the numbers of workers that a run may have
abbrev pub AreWorkers : ℕ → Type 0
AreWorkers workers = IsFromOneTo MOST_WORKERS workers

-- the sides that the grid may have
abbrev pub IsSide : ℕ → Type 0
IsSide side = IsFromOneTo MOST_SIDE side

-- the number of an option is in range
abbrev pub IsInRange : Choice → Type 0
IsInRange (choice.Events bound) = IsBound bound
IsInRange choice.Brief = Unit {0}
IsInRange (choice.Workers n) = AreWorkers n
IsInRange (choice.Side side) = IsSide side

-- the options of each command: `--events` of all; `--brief` of `serial` and `run`; `--workers` of `run` and `load`; the side of `load`
abbrev pub is_option_of : Kind → Choice → Bool
is_option_of _ (choice.Events _) = true
is_option_of kind.Serial choice.Brief = true
is_option_of kind.Run choice.Brief = true
is_option_of kind.Load choice.Brief = false
is_option_of kind.Serial (choice.Workers _) = false
is_option_of kind.Run (choice.Workers _) = true
is_option_of kind.Load (choice.Workers _) = true
is_option_of kind.Serial (choice.Side _) = false
is_option_of kind.Run (choice.Side _) = false
is_option_of kind.Load (choice.Side _) = true

-- an option may be chosen: the command has it, and its number is in range
abbrev pub MayStand : Kind → Choice → Type 0
MayStand k c = (is_option_of k c ≡ true) × IsInRange c

abbrev pub EachMayStand : Kind → List Choice → Type 0
EachMayStand k [] = Unit {0}
EachMayStand k (c ∷ cs) = MayStand k c × EachMayStand k cs

abbrev pub is_events : Choice → Bool
is_events (choice.Events _) = true
is_events _ = false

abbrev pub is_brief : Choice → Bool
is_brief choice.Brief = true
is_brief _ = false

abbrev pub is_workers : Choice → Bool
is_workers (choice.Workers _) = true
is_workers _ = false

abbrev pub is_side : Choice → Bool
is_side (choice.Side _) = true
is_side _ = false

abbrev pub times : Bool → ℕ
times false = 0
times true = 1

-- how often options of a kind are chosen
abbrev pub count : (Choice → Bool) → List Choice → ℕ
count kind [] = 0
count kind (c ∷ cs) = times (kind c) + count kind cs

-- each option is chosen once at most
pub record IsOnce (choices : List Choice) : Type 0 where
  pub events : count is_events choices ≤ 1
  pub brief : count is_brief choices ≤ 1
  pub workers : count is_workers choices ≤ 1
  pub side : count is_side choices ≤ 1

-- the number of entries that the options name, or 100,000
abbrev pub bound_of : List Choice → ℕ
bound_of [] = 100000
bound_of (choice.Events bound ∷ _) = bound
bound_of (choice.Brief ∷ cs) = bound_of cs
bound_of (choice.Workers _ ∷ cs) = bound_of cs
bound_of (choice.Side _ ∷ cs) = bound_of cs

-- the number of workers that the options name, or this one
abbrev pub workers_of : ℕ → List Choice → ℕ
workers_of unnamed [] = unnamed
workers_of unnamed (choice.Workers n ∷ _) = n
workers_of unnamed (choice.Events _ ∷ cs) = workers_of unnamed cs
workers_of unnamed (choice.Brief ∷ cs) = workers_of unnamed cs
workers_of unnamed (choice.Side _ ∷ cs) = workers_of unnamed cs

-- the side of the grid that the options name, if they name one
abbrev pub side_of : List Choice → Option ℕ
side_of [] = None
side_of (choice.Side side ∷ _) = Some side
side_of (choice.Events _ ∷ cs) = side_of cs
side_of (choice.Brief ∷ cs) = side_of cs
side_of (choice.Workers _ ∷ cs) = side_of cs

-- how many workers a run has whose words name none: 4, or 1 where it is serial
abbrev pub unnamed_workers : Kind → ℕ
unnamed_workers kind.Serial = 1
unnamed_workers kind.Run = 4
unnamed_workers kind.Load = 4

-- `--brief` is among the options
abbrev pub is_brief_in : List Choice → Bool
is_brief_in choices = nat_lt 0 (count is_brief choices)

-- the words are options of such a command in some order, each at most once; they ask for so many entries, for the brief text or
-- not, for so many workers, and name the side of the grid or none
pub record AreOptions (k : Kind) (words : List (List ℕ)) (events : ℕ) (brief : Bool) (workers : ℕ) (side : Option ℕ) : Type 0 where
  pub choices : List Choice
  pub written : words ≡ spellings choices
  pub allowed : EachMayStand k choices
  pub once : IsOnce choices
  pub bound : events ≡ bound_of choices
  pub brief_is : brief ≡ is_brief_in choices
  pub workers_are : workers ≡ workers_of (unnamed_workers k) choices
  pub side_is : side ≡ side_of choices

-- the words are the options of `load`, among which the side of the grid is
abbrev pub AreOptionsOfLoad : List (List ℕ) → ℕ → ℕ → ℕ → Type 0
AreOptionsOfLoad words side events workers = AreOptions kind.Load words events false workers (Some side)

-- ---- commands

-- the words are those of a command: `check`, `replay`, `serial` with options, or, where runs on workers are made, `run` or `load`
-- with options
abbrev pub AreWordsOf : Bool → List (List ℕ) → Command → Type 0
AreWordsOf may_run words command.Check = words ≡ codes "check" ∷ []
AreWordsOf may_run words command.Replay = words ≡ codes "replay" ∷ []
AreWordsOf may_run words (command.Run events brief workers) =
    ((rest : List (List ℕ)) × (words ≡ codes "serial" ∷ rest) × AreOptions kind.Serial rest events brief workers None)
    ⊎ ((rest : List (List ℕ)) × (may_run ≡ true) × (words ≡ codes "run" ∷ rest) × AreOptions kind.Run rest events brief workers None)
AreWordsOf may_run words (command.Load side events workers) =
    (rest : List (List ℕ)) × (may_run ≡ true) × (words ≡ codes "load" ∷ rest) × AreOptionsOfLoad rest side events workers

-- a run is asked for with a number of entries and of workers in range, and of a grid whose side is in range
abbrev pub IsBounded : Command → Type 0
IsBounded command.Check = Unit {0}
IsBounded command.Replay = Unit {0}
IsBounded (command.Run events brief workers) = IsBound events × AreWorkers workers
IsBounded (command.Load side events workers) = IsSide side × (IsBound events × AreWorkers workers)

-- how many bytes a command works on at most: a program text has 1,048,576, a run text 67,108,864
abbrev pub most_bytes : Command → ℕ
most_bytes command.Check = MOST_PROGRAM_BYTES
most_bytes command.Replay = MOST_RECORD_BYTES
most_bytes (command.Run events brief workers) = MOST_PROGRAM_BYTES
most_bytes (command.Load side events workers) = MOST_PROGRAM_BYTES

-- the words are those of the command that is told, or of none
abbrev pub Commands : Bool → List (List ℕ) → Option Command → Type 0
Commands may_run words (Some c) = AreWordsOf may_run words c
Commands may_run words None = (c : Command) → AreWordsOf may_run words c → ⊥
