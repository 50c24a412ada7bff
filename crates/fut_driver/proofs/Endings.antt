-- From what came of the bytes to a verdict.
use Rattle.std.proofs.Common.{◌≡◌, ℕ, ◌≤◌, Bool, List, [], ◌∷◌, length, inl, inr, refl, sym, ap, ◌∙◌, subst, arith}
use Rattle.std.specs.Prelude.{Some, None, true, Ok, ℤ}
use Rattle.fut_base.specs.declared.event.Event.{Event}
use Rattle.fut_base.specs.declared.record.Race.{Race}
use Rattle.fut_base.specs.declared.record.Finish.{Finish}
use Rattle.fut_base.specs.declared.record.Finish.TheVariants as finish
use Rattle.fut_base.specs.Racing.{IsReport}
use Rattle.fut_base.specs.declared.limits.TheConstants.{MOST_ENTRIES, MOST_PROGRAM_BYTES}
use Rattle.fut_syntax.specs.Trees as tree
use Rattle.fut_syntax.specs.declared.tree.Program as declared
use Rattle.fut_tokens.specs.declared.token.Position.{Position}
use Rattle.fut_syntax.specs.Views.{program_tree}
use Rattle.fut_syntax.specs.Texts.{Parses, IsProgram}
use Rattle.fut_check.specs.Checks.{HasPlaces, IsFaultOf}
use Rattle.fut_check.specs.Items.{IsWellTyped}
use Rattle.task_code.specs.Flat.{Compiled, IsCodeOf}
use Rattle.fut_base.specs.Bounds.{AreNumbered, IsFinish}
use Rattle.run_record.specs.Records.{IsFault}
use Rattle.run_replay.specs.Serials.{IsSerialRun}
use Rattle.fut_engine.specs.Runs.{IsRun}
use Rattle.run_check.specs.Checks.{IsAccepted}
use Rattle.run_check.proofs.Within.{accepted_are_within}
use Rattle.fut_driver.specs.declared.form.Form.{Form}
use Rattle.fut_driver.specs.declared.status.Status.{Status}
use Rattle.fut_driver.specs.declared.status.Status.TheVariants as status
use Rattle.fut_driver.specs.declared.program.Refusal.{Refusal}
use Rattle.fut_driver.specs.declared.program.Refusal.TheVariants as refusal
use Rattle.command_words.specs.declared.words.Command.{Command}
use Rattle.command_words.specs.declared.words.Command.TheVariants as command
use Rattle.command_words.specs.Asking.{AreWordsOf, IsBound, most_bytes}
use Rattle.fut_driver.specs.Given.{Asked, Asks}
use Rattle.fut_driver.specs.Due.{due_text, run_due, legal_text}
use Rattle.fut_driver.specs.Outcomes.{ending_of, status_of, IsOfTree, IsRefused, RanAs, IsOutcome}
use Rattle.fut_driver.specs.Verdict.{IsTaken, IsInput, AsksRun, IsWellTypedText, IsIllTypedText, Says}
use Rattle.fut_driver.specs.Verdict.{limits_of, IsRunOf, IsOfHistory, IsRecordOf, IsGiven, IsVerdict}

-- ---- a program

pub of_tree : (text : List ℕ) (p : declared.Program) → HasPlaces p → Parses text (Ok p) → IsOfTree text p
of_tree text p places parsed = record { tree = parsed.0.0; is = parsed.0.1; program = parsed.0.2; places = places; tokens = parsed.1.0; cut = parsed.1.1 }

-- the tree of a program is that of its text
tree_is : (text : List ℕ) (p : declared.Program) (P : tree.Program) (of : IsOfTree text p) → program_tree p.items ≡ Some P → P ≡ of.tree
tree_is text p P of is = let both : Some P ≡ Some of.tree = sym is ∙ of.is in cc

pub faulty : (text : List ℕ) (p : declared.Program) (number : ℕ) (place : Position) → IsOfTree text p → IsFaultOf p number place
    → IsIllTypedText text number place
faulty text p number place of f = record {
  tree = f.tree;
  program = subst (λ P. IsProgram text P) (sym (tree_is text p f.tree of f.is)) of.program;
  fault = f.fault;
  first = f.first;
  rule = f.rule;
  tokens = of.tokens;
  places = p.places;
  cut = of.cut;
  stands = f.stands;
}

-- ---- how a run ended

not_whole_events : (b : ℕ) → finish.Events b ≡ finish.Whole → ⊥
not_whole_events b h = cc

not_whole_local : (t : ℕ) → finish.Local t ≡ finish.Whole → ⊥
not_whole_local t h = cc

not_whole_futures : (t : ℕ) → finish.Futures t ≡ finish.Whole → ⊥
not_whole_futures t h = cc

says : (end : Finish) (races : List Race) → Says (ending_of end races) end races
says finish.Whole [] = (refl, refl)
says finish.Whole (r ∷ rs) = (refl, λ none. absurd (cc))
says (finish.Events b) races = (refl, not_whole_events b)
says (finish.Local t) races = (refl, not_whole_local t)
says (finish.Futures t) races = (refl, not_whole_futures t)

-- a run is what a replay accepts
accepted_run : (P : tree.Program) (workers bound : ℕ) (h : List Event) (races : List Race) (end : Finish) (cells : List ℤ)
    → IsRunOf P workers bound h end races cells → IsAccepted P h races end
accepted_run P workers bound h races end cells r = record { legal = (r.run.machine, r.run.leads); those = (r.report, r.run.holds) }

pub ran_as : (P : tree.Program) (workers bound : ℕ) (kept : Form) (text : List ℕ) (s : Status) (h : List Event) (made : List ℕ) (code : Compiled)
    (races : List Race) (end : Finish) (cells : List ℤ) → s ≡ ending_of end races → IsRun P (limits_of bound) h end cells
    → (workers ≡ 1 → IsSerialRun P (limits_of bound) h end cells) → IsReport h races → made ≡ run_due kept text code.arrays h races end cells
    → IsCodeOf P code → IsWellTyped P → IsBound bound → length text ≤ MOST_PROGRAM_BYTES → AreNumbered h → IsFinish end
    → RanAs P workers bound kept text s h made
ran_as P workers bound kept text s h made code races end cells is run serial report due of typed bounded short numbered finished =
    let ran : IsRunOf P workers bound h end races cells = record { run = run; serial = serial; report = report } in
    let few : length h ≤ bound = run.few in
    let most : bound ≤ MOST_ENTRIES = bounded.1 in
    let within = accepted_are_within P text h races end typed (accepted_run P workers bound h races end cells ran) short (omega arith) numbered finished in
    record {
      races = races;
      end = end;
      cells = cells;
      status = is;
      ends = (ran, subst (λ x. Says x end races) (sym is) (says end races));
      text_is = due ∙ ap (λ arrays. run_due kept text arrays h races end cells) of.arrays;
      recorded = λ no. record { within = within; text = due ∙ ap (λ b. run_due b text code.arrays h races end cells) no };
    }

-- ---- verdicts

of_run : (a : Asked) (c : Command) (workers bound : ℕ) (kept : Form) (text : List ℕ) (P : tree.Program) (s : Status) (h : List Event) (made : List ℕ)
    → AsksRun c bound kept workers → Asks a c → IsInput a c text → IsWellTypedText text P → RanAs P workers bound kept text s h made → IsOfHistory a s h made
of_run a c workers bound kept text P s h made asked words read typed r = inl (record {
  command = c;
  words = words;
  bound = bound;
  due = kept;
  workers = workers;
  asked = asked;
  bytes = text;
  read = read;
  tree = P;
  program = typed;
  races = r.races;
  end = r.end;
  cells = r.cells;
  ends = r.ends;
  is_due = r.text_is;
  replayed = λ no. (record { program = text; record_is = r.recorded no; typed = typed }, accepted_run P workers bound h r.races r.end r.cells r.ends.0);
})

pub run_verdict : (a : Asked) (c : Command) (workers bound : ℕ) (kept : Form) (text : List ℕ) (P : tree.Program) (s : Status) (h : List Event) (made : List ℕ)
    → AsksRun c bound kept workers → IsWellTypedText text P → RanAs P workers bound kept text s h made → Asks a c → IsInput a c text
    → IsVerdict a s h (due_text s made)
run_verdict a c workers bound kept text P status.Clean h made asked typed r words read =
    of_run a c workers bound kept text P status.Clean h made asked words read typed r
run_verdict a c workers bound kept text P status.Raced h made asked typed r words read =
    of_run a c workers bound kept text P status.Raced h made asked words read typed r
run_verdict a c workers bound kept text P (status.Spent end) h made asked typed r words read =
    of_run a c workers bound kept text P (status.Spent end) h made asked words read typed r
run_verdict a c workers bound kept text P status.Accepted h made asked typed r words read = absurd r.ends.1
run_verdict a c workers bound kept text P (status.Syntax line column) h made asked typed r words read = absurd r.ends.1
run_verdict a c workers bound kept text P (status.IllTyped rule line column) h made asked typed r words read = absurd r.ends.1
run_verdict a c workers bound kept text P (status.NotLegal entry) h made asked typed r words read = absurd r.ends.1
run_verdict a c workers bound kept text P (status.NotRun byte) h made asked typed r words read = absurd r.ends.1
run_verdict a c workers bound kept text P status.ReadFault h made asked typed r words read = absurd r.ends.1
run_verdict a c workers bound kept text P status.WriteFault h made asked typed r words read = absurd r.ends.1
run_verdict a c workers bound kept text P status.NoMemory h made asked typed r words read = absurd r.ends.1
run_verdict a c workers bound kept text P status.Usage h made asked typed r words read = absurd r.ends.1
run_verdict a c workers bound kept text P status.TooLong h made asked typed r words read = absurd r.ends.1

-- a record that was accepted
record_by : (a : Asked) (bytes : List ℕ) (P : tree.Program) (h : List Event) (races : List Race) (end : Finish) (s : Status) (made : List ℕ)
    → Says s end races → IsRecordOf bytes P h races end → IsAccepted P h races end → made ≡ legal_text (length h) (length races) → Asks a command.Replay
    → IsInput a command.Replay bytes → IsOfHistory a s h made
record_by a bytes P h races end s made says of accepted due words read =
    inr (record { words = words; bytes = bytes; read = read; tree = P; races = races; end = end; good = (of, accepted); says = says; is_due = due })

pub record_verdict : (a : Asked) (bytes : List ℕ) (P : tree.Program) (h : List Event) (races : List Race) (end : Finish) (made : List ℕ)
    → IsRecordOf bytes P h races end → IsAccepted P h races end → made ≡ legal_text (length h) (length races) → Asks a command.Replay
    → IsInput a command.Replay bytes → IsVerdict a (ending_of end races) h (due_text (ending_of end races) made)
record_verdict a bytes P h [] finish.Whole made of accepted due words read =
    record_by a bytes P h [] finish.Whole status.Clean made (says finish.Whole []) of accepted due words read
record_verdict a bytes P h (r ∷ rs) finish.Whole made of accepted due words read =
    record_by a bytes P h (r ∷ rs) finish.Whole status.Raced made (says finish.Whole (r ∷ rs)) of accepted due words read
record_verdict a bytes P h races (finish.Events b) made of accepted due words read =
    record_by a bytes P h races (finish.Events b) (status.Spent (finish.Events b)) made (says (finish.Events b) races) of accepted due words read
record_verdict a bytes P h races (finish.Local t) made of accepted due words read =
    record_by a bytes P h races (finish.Local t) (status.Spent (finish.Local t)) made (says (finish.Local t) races) of accepted due words read
record_verdict a bytes P h races (finish.Futures t) made of accepted due words read =
    record_by a bytes P h races (finish.Futures t) (status.Spent (finish.Futures t)) made (says (finish.Futures t) races) of accepted due words read

-- the program text was refused
refused_as : (a : Asked) (c : Command) (bytes program : List ℕ) (f : Refusal) (h : List Event) (made : List ℕ) → h ≡ [] → IsGiven c bytes program
    → IsRefused program f → Asks a c → IsInput a c bytes → IsVerdict a (status_of f) h (due_text (status_of f) made)
refused_as a c bytes program (refusal.Syntax line column) h made none given is words read =
    (c, record { words = words; no_run = none; is_due = refl; bytes = bytes; read = read; holds = (program, given, is) })
refused_as a c bytes program (refusal.IllTyped rule line column) h made none given is words read =
    (c, record { words = words; no_run = none; is_due = refl; bytes = bytes; read = read; holds = (program, given, is) })
refused_as a c bytes program refusal.NoMemory h made none given is words read = (none, refl, read.quiet)

pub refused : (a : Asked) (c : Command) (bytes program : List ℕ) (f : Refusal) (s : Status) (h : List Event) (made : List ℕ) → s ≡ status_of f → h ≡ []
    → IsGiven c bytes program → IsRefused program f → Asks a c → IsInput a c bytes → IsVerdict a s h (due_text s made)
refused a c bytes program f s h made is none given holds words read =
    subst (λ x. IsVerdict a x h (due_text x made)) (sym is) (refused_as a c bytes program f h made none given holds words read)

pub not_run : (a : Asked) (s : Status) (h : List Event) (made bytes : List ℕ) (byte : ℕ) → s ≡ status.NotRun byte → h ≡ [] → IsFault bytes byte
    → Asks a command.Replay → IsInput a command.Replay bytes → IsVerdict a s h (due_text s made)
not_run a s h made bytes byte is none fault words read =
    subst (λ x. IsVerdict a x h (due_text x made)) (sym is) (record { words = words; no_run = none; is_due = refl; bytes = bytes; read = read; holds = fault })

-- ---- words

-- what comes of words of a command is no usage
pub not_usage : (m : Bool) (words : List (List ℕ)) (c : Command) (bytes : List ℕ) (s : Status) (h : List Event) (made : List ℕ) → AreWordsOf m words c
    → length bytes ≤ most_bytes c → IsTaken c None None true bytes → IsOutcome c bytes s h made → s ≡ status.Usage → ⊥
not_usage m words c bytes s h made asks short taken o is =
    let a : Asked = record { may_run = m; words = words; left_before = None; left_after = None; ended = true; faults_before = 0; faults_after = 0 } in
    let read : IsInput a c bytes = record { short = short; taken = taken; quiet = refl } in
    let v : IsVerdict a status.Usage h (due_text status.Usage made) = subst (λ x. IsVerdict a x h (due_text x made)) is (o a asks read) in
    v.0 c asks
