-- One thing comes of a text.
use Rattle.std.proofs.Common.{◌≡◌, ℕ, ◌+◌, ◌-◌, List, [], ◌∷◌, length, inl, inr, refl, sym, ap, ◌∙◌, subst, arith, ℤ}
use Rattle.std.specs.Prelude.{Some, slice_get, ◌⊎◌}
use Rattle.std.proofs.lemmas.List.{length-append}
use Rattle.fut_base.specs.declared.event.Event.{Event}
use Rattle.fut_base.specs.declared.record.Race.{Race}
use Rattle.fut_base.specs.declared.record.Finish.{Finish}
use Rattle.fut_base.specs.declared.record.Finish.TheVariants as finish
use Rattle.fut_base.specs.Racing.{IsReport}
use Rattle.fut_base.proofs.Reports.{one_report}
use Rattle.fut_tokens.specs.declared.token.Position.{Position}
use Rattle.fut_tokens.proofs.Cuts.{tokens_once}
use Rattle.fut_syntax.specs.Trees as tree
use Rattle.fut_syntax.specs.Faults.{IsFault as IsTokenFault}
use Rattle.fut_syntax.specs.Lines.{canonical_text}
use Rattle.fut_syntax.specs.Texts.{IsFaultPlace}
use Rattle.fut_syntax.proofs.Programs.{one_program, no_faulty_program}
use Rattle.fut_syntax.proofs.Whole.{fault_once}
use Rattle.fut_rules.specs.declared.fault.Fault.{Fault}
use Rattle.fut_rules.specs.Faults.{rule_number, IsAmong, IsFirst}
use Rattle.fut_check.specs.Items.{faults_of}
use Rattle.fut_check.proofs.Once.{one_first}
use Rattle.task_machine.specs.Texts.{cell_arrays}
use Rattle.run_record.specs.Records.{IsRunText, IsFault}
use Rattle.run_record.proofs.Onces.{one_value}
use Rattle.run_record.proofs.Decided.{one_fault}
use Rattle.run_replay.proofs.OneRun.{serial_is_one}
use Rattle.run_check.specs.Checks.{IsAccepted, IsRefusedAt}
use Rattle.run_check.proofs.Refusals.{accepted_is_not_refused, one_refusal}
use Rattle.command_words.specs.declared.words.Command.{Command}
use Rattle.command_words.specs.declared.words.Command.TheVariants as command
use Rattle.fut_driver.specs.declared.form.Form.{Form}
use Rattle.fut_driver.specs.declared.form.Form.TheVariants as form
use Rattle.fut_driver.specs.declared.status.Status.{Status}
use Rattle.fut_driver.specs.declared.status.Status.TheVariants as status
use Rattle.fut_driver.specs.Due.{syntax_text, type_text, legal_text, not_legal_text, not_run_text, form_of, run_due}
use Rattle.fut_driver.specs.Outcomes.{ending_of}
use Rattle.fut_driver.specs.Verdict.{IsWellTypedText, IsIllTypedText, Says, limits_of, EndsIn, IsGiven}

-- a status, a history and a text are these
abbrev pub Same : Status → List Event → List ℕ → Status → List Event → List ℕ → Type 0
Same s h text r g other = (s ≡ r) × (h ≡ g) × (text ≡ other)

pub same_by : (s r x : Status) (h g i : List Event) (text other due : List ℕ) → Same s h text x i due → Same r g other x i due → Same s h text r g other
same_by s r x h g i text other due p q = (p.0 ∙ sym q.0, p.1 ∙ sym q.1, p.2 ∙ sym q.2)

-- ---- places

some_place : (p q : Position) → Some p ≡ Some q → p ≡ q
some_place p q h = cc

-- the tokens before the fault are as many as are not at it or behind it
before_is : (bytes : List ℕ) (place : Position) (f : IsFaultPlace bytes place) → length f.fault.before ≡ length f.tokens - (f.left + 1)
before_is bytes place f =
    let sum = ap length f.fault.whole ∙ length-append f.fault.before (f.fault.token ∷ f.fault.behind) in
    omega (arith, sum, f.fault.left_is)

one_fault_place : (bytes : List ℕ) (p q : Position) → IsFaultPlace bytes p → IsFaultPlace bytes q → p ≡ q
one_fault_place bytes p q x y =
    let same = tokens_once bytes x.tokens y.tokens x.places y.places x.cut y.cut in
    let left : x.left ≡ y.left = fault_once y.tokens x.left y.left (subst (λ ts. IsTokenFault ts x.left) same.0 x.fault) y.fault in
    let count : length x.fault.before ≡ length y.fault.before =
    before_is bytes p x ∙ (ap (λ ts. length ts - (x.left + 1)) same.0 ∙ (ap (λ n. length y.tokens - (n + 1)) left ∙ sym (before_is bytes q y))) in
    some_place p q (sym x.stands ∙ (ap (λ ps. slice_get ps (length x.fault.before)) same.1 ∙ (ap (slice_get y.places) count ∙ y.stands)))

-- the first fault of a text has one rule and one place
one_type_fault : (bytes : List ℕ) (m n : ℕ) (p q : Position) → IsIllTypedText bytes m p → IsIllTypedText bytes n q → (m ≡ n) × (p ≡ q)
one_type_fault bytes m n p q x y =
    let tree_is : x.tree ≡ y.tree = one_program bytes x.tree y.tree x.program y.program in
    let first : IsFirst x.fault (faults_of y.tree) = subst (λ (t : tree.Program). IsFirst x.fault (faults_of t)) tree_is x.first in
    let fault_is : x.fault ≡ y.fault = one_first (faults_of y.tree) x.fault y.fault first y.first in
    let places_are = (tokens_once bytes x.tokens y.tokens x.places y.places x.cut y.cut).1 in (
      x.rule ∙ (ap (λ (f : Fault). rule_number f.rule) fault_is ∙ sym y.rule),
      some_place p q (sym x.stands ∙ (ap (λ ps. slice_get ps x.fault.token) places_are ∙ (ap (λ (f : Fault). slice_get y.places f.token) fault_is ∙ y.stands))),
    )

-- a program that breaks no rule has no fault place
pub no_syntax : (text : List ℕ) (P : tree.Program) (place : Position) → IsWellTypedText text P → IsFaultPlace text place → ⊥
no_syntax text P place typed fault = no_faulty_program text place P fault typed.program

-- and no first fault
pub no_type_fault : (text : List ℕ) (P : tree.Program) (number : ℕ) (place : Position) → IsWellTypedText text P → IsIllTypedText text number place → ⊥
no_type_fault text P number place typed ill =
    let same : ill.tree ≡ P = one_program text ill.tree P ill.program typed.program in
    subst (IsAmong ill.fault) (ap faults_of same ∙ typed.well_typed) ill.first.among

-- ---- runs

says_how : (s : Status) (end : Finish) (races : List Race) → Says s end races → s ≡ ending_of end races
says_how status.Clean end races says = sym (ap (λ e. ending_of e races) says.0 ∙ ap (ending_of finish.Whole) says.1)
says_how status.Raced end [] says = absurd (says.1 refl)
says_how status.Raced end (r ∷ rs) says = sym (ap (λ e. ending_of e (r ∷ rs)) says.0)
says_how (status.Spent spent) finish.Whole races says = absurd (says.1 refl)
says_how (status.Spent spent) (finish.Events b) races says = ap status.Spent (sym says.0)
says_how (status.Spent spent) (finish.Local t) races says = ap status.Spent (sym says.0)
says_how (status.Spent spent) (finish.Futures t) races says = ap status.Spent (sym says.0)
says_how status.Accepted end races says = absurd says
says_how (status.Syntax _ _) end races says = absurd says
says_how (status.IllTyped _ _ _) end races says = absurd says
says_how (status.NotLegal _) end races says = absurd says
says_how (status.NotRun _) end races says = absurd says
says_how status.ReadFault end races says = absurd says
says_how status.WriteFault end races says = absurd says
says_how status.NoMemory end races says = absurd says
says_how status.Usage end races says = absurd says
says_how status.TooLong end races says = absurd says

-- a program was run, and this text is due
pub record IsRunDue (workers bound : ℕ) (due : Form) (bytes : List ℕ) (P : tree.Program) (s : Status) (h : List Event) (text : List ℕ) : Type 0 where
  pub races : List Race
  pub end : Finish
  pub cells : List ℤ
  pub ends : EndsIn P workers bound s end h races cells
  pub is_due : text ≡ run_due due bytes (cell_arrays P) h races end cells

one_run : (workers bound : ℕ) (kept : Form) (bytes : List ℕ) (P : tree.Program) (s r : Status) (h g : List Event) (text other : List ℕ) → workers ≡ 1
    → IsRunDue workers bound kept bytes P s h text → IsRunDue workers bound kept bytes P r g other → Same s h text r g other
one_run workers bound kept bytes P s r h g text other one x y =
    let run = serial_is_one P (limits_of bound) h g x.end y.end x.cells y.cells (x.ends.0.serial one) (y.ends.0.serial one) in
    let races_are : x.races ≡ y.races = one_report g x.races y.races (subst (λ e. IsReport e x.races) run.0 x.ends.0.report) y.ends.0.report in
    let ending : ending_of x.end x.races ≡ ending_of y.end y.races = ap (λ e. ending_of e x.races) run.1 ∙ ap (ending_of y.end) races_are in
    let due = λ (e : List Event) (rs : List Race) (f : Finish) (cs : List ℤ). run_due kept bytes (cell_arrays P) e rs f cs in
    let dues : due h x.races x.end x.cells ≡ due g y.races y.end y.cells =
    ap (λ e. due e x.races x.end x.cells) run.0
    ∙ (ap (λ rs. due g rs x.end x.cells) races_are ∙ (ap (λ f. due g y.races f x.cells) run.1 ∙ ap (due g y.races y.end) run.2)) in
    (says_how s x.end x.races x.ends.1 ∙ (ending ∙ sym (says_how r y.end y.races y.ends.1)), run.0, x.is_due ∙ (dues ∙ sym y.is_due))

-- ---- records

-- a record of a program is accepted, or refused at an entry
abbrev pub IsJudged : tree.Program → List Event → List Race → Finish → Status → List Event → List ℕ → Type 0
IsJudged P events races end s h text =
    (IsAccepted P events races end × Says s end races × (h ≡ events) × (text ≡ legal_text (length events) (length races)))
    ⊎ ((entry : ℕ) × IsRefusedAt P events races end entry × Same s h text (status.NotLegal entry) [] (not_legal_text entry))

one_judgement : (P : tree.Program) (events : List Event) (races : List Race) (end : Finish) (s r : Status) (h g : List Event) (text other : List ℕ)
    → IsJudged P events races end s h text → IsJudged P events races end r g other → Same s h text r g other
one_judgement P events races end s r h g text other (inl x) (inl y) =
    (says_how s end races x.1 ∙ sym (says_how r end races y.1), x.2 ∙ sym y.2, x.3 ∙ sym y.3)
one_judgement P events races end s r h g text other (inl x) (inr y) = absurd (accepted_is_not_refused P events races end y.0 x.0 y.1)
one_judgement P events races end s r h g text other (inr x) (inl y) = absurd (accepted_is_not_refused P events races end x.0 y.0 x.1)
one_judgement P events races end s r h g text other (inr x) (inr y) =
    let entry : x.0 ≡ y.0 = one_refusal P events races end x.0 y.0 x.1 y.1 in
    same_by s r (status.NotLegal y.0) h g [] text other (not_legal_text y.0)
    (subst (λ k. Same s h text (status.NotLegal k) [] (not_legal_text k)) entry x.2) y.2

pub record IsRecordDue (bytes : List ℕ) (P : tree.Program) (s : Status) (h : List Event) (text : List ℕ) : Type 0 where
  pub program : List ℕ
  pub events : List Event
  pub races : List Race
  pub end : Finish
  pub record_is : IsRunText bytes program events races end
  pub judged : IsJudged P events races end s h text

one_record : (bytes : List ℕ) (P : tree.Program) (s r : Status) (h g : List Event) (text other : List ℕ) → IsRecordDue bytes P s h text
    → IsRecordDue bytes P r g other → Same s h text r g other
one_record bytes P s r h g text other x y =
    let same = one_value bytes x.program x.events x.races x.end y.program y.events y.races y.end x.record_is y.record_is in
    let moved : IsJudged P y.events y.races y.end s h text =
    subst (λ f. IsJudged P y.events y.races f s h text) same.3
    (subst (λ rs. IsJudged P y.events rs x.end s h text) same.2 (subst (λ es. IsJudged P es x.races x.end s h text) same.1 x.judged)) in
    one_judgement P y.events y.races y.end s r h g text other moved y.judged

-- ---- texts

-- where a run is asked for, it is one on one worker
abbrev pub OnOneWorker : Command → Type 0
OnOneWorker command.Check = Unit {0}
OnOneWorker command.Replay = Unit {0}
OnOneWorker (command.Run bound brief workers) = workers ≡ 1
OnOneWorker (command.Load side bound workers) = workers ≡ 1

-- what comes of a program that breaks no type rule
abbrev pub IsGoodDue : Command → List ℕ → tree.Program → Status → List Event → List ℕ → Type 0
IsGoodDue command.Check bytes P s h text = Same s h text status.Accepted [] (canonical_text P)
IsGoodDue (command.Run bound brief workers) bytes P s h text = IsRunDue workers bound (form_of brief) bytes P s h text
IsGoodDue (command.Load side bound workers) bytes P s h text = IsRunDue workers bound form.Summed bytes P s h text
IsGoodDue command.Replay bytes P s h text = IsRecordDue bytes P s h text

one_good : (c : Command) (bytes : List ℕ) (P : tree.Program) (s r : Status) (h g : List Event) (text other : List ℕ) → OnOneWorker c
    → IsGoodDue c bytes P s h text → IsGoodDue c bytes P r g other → Same s h text r g other
one_good command.Check bytes P s r h g text other one x y = same_by s r status.Accepted h g [] text other (canonical_text P) x y
one_good (command.Run bound brief workers) bytes P s r h g text other one x y = one_run workers bound (form_of brief) bytes P s r h g text other one x y
one_good (command.Load side bound workers) bytes P s r h g text other one x y = one_run workers bound form.Summed bytes P s r h g text other one x y
one_good command.Replay bytes P s r h g text other one x y = one_record bytes P s r h g text other x y

-- the program text has a fault place
pub record IsSyntaxDue (program : List ℕ) (s : Status) (h : List Event) (text : List ℕ) : Type 0 where
  pub place : Position
  pub fault : IsFaultPlace program place
  pub is : Same s h text (status.Syntax place.line place.column) [] (syntax_text place.line place.column)

-- it is a program that breaks a type rule
pub record IsTypeDue (program : List ℕ) (s : Status) (h : List Event) (text : List ℕ) : Type 0 where
  pub number : ℕ
  pub place : Position
  pub fault : IsIllTypedText program number place
  pub is : Same s h text (status.IllTyped number place.line place.column) [] (type_text number place.line place.column)

-- it is one that breaks none
pub record IsTypedDue (c : Command) (bytes program : List ℕ) (s : Status) (h : List Event) (text : List ℕ) : Type 0 where
  pub tree : tree.Program
  pub typed : IsWellTypedText program tree
  pub due : IsGoodDue c bytes tree s h text

abbrev pub IsTextDue : Command → List ℕ → List ℕ → Status → List Event → List ℕ → Type 0
IsTextDue c bytes program s h text = IsSyntaxDue program s h text ⊎ (IsTypeDue program s h text ⊎ IsTypedDue c bytes program s h text)

one_text : (c : Command) (bytes program : List ℕ) (s r : Status) (h g : List Event) (text other : List ℕ) → OnOneWorker c → IsTextDue c bytes program s h text
    → IsTextDue c bytes program r g other → Same s h text r g other
one_text c bytes program s r h g text other one (inl x) (inl y) =
    let place : x.place ≡ y.place = one_fault_place program x.place y.place x.fault y.fault in
    same_by s r (status.Syntax y.place.line y.place.column) h g [] text other (syntax_text y.place.line y.place.column)
    (subst (λ (p : Position). Same s h text (status.Syntax p.line p.column) [] (syntax_text p.line p.column)) place x.is) y.is
one_text c bytes program s r h g text other one (inl x) (inr (inl y)) = absurd (no_faulty_program program x.place y.fault.tree x.fault y.fault.program)
one_text c bytes program s r h g text other one (inl x) (inr (inr y)) = absurd (no_syntax program y.tree x.place y.typed x.fault)
one_text c bytes program s r h g text other one (inr (inl x)) (inl y) = absurd (no_faulty_program program y.place x.fault.tree y.fault x.fault.program)
one_text c bytes program s r h g text other one (inr (inl x)) (inr (inl y)) =
    let same = one_type_fault program x.number y.number x.place y.place x.fault y.fault in
    let moved : Same s h text (status.IllTyped y.number y.place.line y.place.column) [] (type_text y.number y.place.line y.place.column) =
    subst (λ (p : Position). Same s h text (status.IllTyped y.number p.line p.column) [] (type_text y.number p.line p.column)) same.1
    (subst (λ n. Same s h text (status.IllTyped n x.place.line x.place.column) [] (type_text n x.place.line x.place.column)) same.0 x.is) in
    same_by s r (status.IllTyped y.number y.place.line y.place.column) h g [] text other (type_text y.number y.place.line y.place.column) moved y.is
one_text c bytes program s r h g text other one (inr (inl x)) (inr (inr y)) = absurd (no_type_fault program y.tree x.number x.place y.typed x.fault)
one_text c bytes program s r h g text other one (inr (inr x)) (inl y) = absurd (no_syntax program x.tree y.place x.typed y.fault)
one_text c bytes program s r h g text other one (inr (inr x)) (inr (inl y)) = absurd (no_type_fault program x.tree y.number y.place x.typed y.fault)
one_text c bytes program s r h g text other one (inr (inr x)) (inr (inr y)) =
    let tree_is : x.tree ≡ y.tree = one_program program x.tree y.tree x.typed.program y.typed.program in
    one_good c bytes y.tree s r h g text other one (subst (λ t. IsGoodDue c bytes t s h text) tree_is x.due) y.due

-- ---- bytes

-- the bytes of a replay are no run text
pub record IsNotRunDue (c : Command) (bytes : List ℕ) (s : Status) (h : List Event) (text : List ℕ) : Type 0 where
  pub byte : ℕ
  pub words : c ≡ command.Replay
  pub fault : IsFault bytes byte
  pub is : Same s h text (status.NotRun byte) [] (not_run_text byte)

-- a program text is found in the bytes
pub record IsFoundDue (c : Command) (bytes : List ℕ) (s : Status) (h : List Event) (text : List ℕ) : Type 0 where
  pub program : List ℕ
  pub given : IsGiven c bytes program
  pub due : IsTextDue c bytes program s h text

-- this comes of the bytes that a command read
abbrev pub Comes : Command → List ℕ → Status → List Event → List ℕ → Type 0
Comes c bytes s h text = IsNotRunDue c bytes s h text ⊎ IsFoundDue c bytes s h text

one_given : (c : Command) (bytes p q : List ℕ) → IsGiven c bytes p → IsGiven c bytes q → p ≡ q
one_given command.Check bytes p q x y = x ∙ sym y
one_given (command.Run _ _ _) bytes p q x y = x ∙ sym y
one_given (command.Load _ _ _) bytes p q x y = x ∙ sym y
one_given command.Replay bytes p q (h, races, end, x) (h', races', end', y) = (one_value bytes p h races end q h' races' end' x y).0

not_both : (c : Command) (bytes p : List ℕ) (byte : ℕ) → c ≡ command.Replay → IsFault bytes byte → IsGiven c bytes p → ⊥
not_both command.Replay bytes p byte is fault (h, races, end, given) = fault.none (p, h, races, end, given)
not_both command.Check bytes p byte is fault given = cc
not_both (command.Run _ _ _) bytes p byte is fault given = cc
not_both (command.Load _ _ _) bytes p byte is fault given = cc

pub one_comes : (c : Command) (bytes : List ℕ) (s r : Status) (h g : List Event) (text other : List ℕ) → OnOneWorker c → Comes c bytes s h text
    → Comes c bytes r g other → Same s h text r g other
one_comes c bytes s r h g text other one (inl x) (inl y) =
    let byte : x.byte ≡ y.byte = one_fault bytes x.byte y.byte x.fault y.fault in
    same_by s r (status.NotRun y.byte) h g [] text other (not_run_text y.byte)
    (subst (λ k. Same s h text (status.NotRun k) [] (not_run_text k)) byte x.is) y.is
one_comes c bytes s r h g text other one (inl x) (inr y) = absurd (not_both c bytes y.program x.byte x.words x.fault y.given)
one_comes c bytes s r h g text other one (inr x) (inl y) = absurd (not_both c bytes x.program y.byte y.words y.fault x.given)
one_comes c bytes s r h g text other one (inr x) (inr y) =
    let program_is : x.program ≡ y.program = one_given c bytes x.program y.program x.given y.given in
    one_text c bytes y.program s r h g text other one (subst (λ p. IsTextDue c bytes p s h text) program_is x.due) y.due
