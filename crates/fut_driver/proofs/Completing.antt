-- What is answered to what nothing hinders.
use Rattle.std.proofs.Common.{◌≡◌, ℕ, List, inl, inr, sym, ap, subst, arith}
use Rattle.fut_base.specs.declared.event.Event.{Event}
use Rattle.fut_syntax.specs.Trees as tree
use Rattle.fut_syntax.proofs.Programs.{one_program}
use Rattle.run_record.specs.Records.{IsFault}
use Rattle.run_record.proofs.Onces.{one_value}
use Rattle.run_check.specs.Checks.{IsRefusedAt}
use Rattle.run_check.proofs.Refusals.{accepted_is_not_refused}
use Rattle.fut_driver.specs.declared.status.Status.{Status}
use Rattle.fut_driver.specs.declared.status.Status.TheVariants as status
use Rattle.command_words.specs.declared.words.Command.{Command}
use Rattle.command_words.specs.declared.words.Command.TheVariants as command
use Rattle.command_words.specs.Asking.{most_bytes}
use Rattle.fut_driver.specs.Given.{Asked, Told, Asks}
use Rattle.fut_driver.specs.Verdict.{Reads, IsLeft, IsInput, IsWellTypedText, IsRefusedRecord, GaveTooMuch}
use Rattle.fut_driver.specs.Verdict.{IsGiven, IsOfHistory, IsVerdict, IsFit, IsUnhindered, AsksHistory, IsFree}
use Rattle.command_words.proofs.Wording.{one_command}
use Rattle.fut_driver.proofs.Coming.{no_syntax, no_type_fault}
use Rattle.fut_driver.proofs.Consuming.{not_longer}
use Rattle.fut_driver.proofs.Inputs.{was_left, taken_is_left}

-- ---- what was read

-- the words ask for one command
left_is : (a : Asked) (t : Told) (u : IsUnhindered a t) (c : Command) → Asks a c → IsLeft c a.left_before u.bytes
left_is a t u c words = subst (λ d. IsLeft d a.left_before u.bytes) (one_command a.may_run a.words u.command c u.words words) u.left

read_is : (a : Asked) (t : Told) (u : IsUnhindered a t) (c : Command) (bytes : List ℕ) → Asks a c → IsInput a c bytes → bytes ≡ u.bytes
read_is a t u c bytes words read = taken_is_left c a.left_before a.left_after a.ended bytes u.bytes (left_is a t u c words) read.taken

-- ---- what fits

-- the program text in what fits is well-typed
given_typed : (c : Command) (bytes program : List ℕ) → IsGiven c bytes program → IsFit c bytes → (P : tree.Program) × IsWellTypedText program P
given_typed command.Replay bytes program (h, races, end, given) (P, h', races', end', (of, accepted)) =
    let same = one_value bytes program h races end of.program h' races' end' given of.record_is in
    (P, subst (λ p. IsWellTypedText p P) (sym same.0) of.typed)
given_typed command.Check bytes program given (P, typed) = (P, subst (λ b. IsWellTypedText b P) (sym given) typed)
given_typed (command.Run _ _ _) bytes program given (P, typed) = (P, subst (λ b. IsWellTypedText b P) (sym given) typed)
given_typed (command.Load _ _ _) bytes program given (P, typed) = (P, subst (λ b. IsWellTypedText b P) (sym given) typed)

is_a_run : (bytes : List ℕ) (count : ℕ) → IsFit command.Replay bytes → IsFault bytes count → ⊥
is_a_run bytes count (P, h, races, end, (of, accepted)) fault = fault.none (of.program, h, races, end, of.record_is)

not_refused : (bytes : List ℕ) (k : ℕ) → IsFit command.Replay bytes → IsRefusedRecord bytes k → ⊥
not_refused bytes k (P, h, races, end, (of, accepted)) bad =
    let same = one_value bytes bad.record_is.program bad.events bad.races bad.end of.program h races end bad.record_is.record_is of.record_is in
    let typed : IsWellTypedText of.program bad.tree = subst (λ p. IsWellTypedText p bad.tree) same.0 bad.record_is.typed in
    let tree_is : bad.tree ≡ P = one_program of.program bad.tree P typed.program of.typed.program in
    let moved : IsRefusedAt P h races end k =
    subst (λ x. IsRefusedAt P h races x k) same.3
    (subst (λ x. IsRefusedAt P h x bad.end k) same.2
    (subst (λ x. IsRefusedAt P x bad.races bad.end k) same.1 (subst (λ x. IsRefusedAt x bad.events bad.races bad.end k) tree_is bad.refused))) in
    accepted_is_not_refused P h races end k accepted moved

-- ---- the answer

-- what the command read fits it
command_fit : (a : Asked) (t : Told) (u : IsUnhindered a t) (c : Command) (bytes : List ℕ) → Asks a c → IsInput a c bytes → IsFit c bytes
command_fit a t u c bytes words read =
    subst (λ d. IsFit d bytes) (one_command a.may_run a.words u.command c u.words words)
    (subst (IsFit u.command) (sym (read_is a t u c bytes words read)) u.fit)

text_typed : (a : Asked) (t : Told) (u : IsUnhindered a t) (c : Command) (bytes program : List ℕ) → Asks a c → IsInput a c bytes → IsGiven c bytes program
    → (P : tree.Program) × IsWellTypedText program P
text_typed a t u c bytes program words read given =
    given_typed c bytes program given (command_fit a t u c bytes words read)

not_too_long : (a : Asked) (t : Told) (u : IsUnhindered a t) (c : Command) → Asks a c → Reads c → GaveTooMuch a (most_bytes c) → ⊥
not_too_long a t u c words reads gave =
    let most = not_longer a.left_before a.left_after gave.bytes u.bytes (was_left c a.left_before u.bytes reads (left_is a t u c words)) gave.taken in
    let same : most_bytes c ≡ most_bytes u.command = ap most_bytes (one_command a.may_run a.words c u.command words u.words) in
    absurd (omega (arith, most, gave.long, u.short, same))

asks_history : (a : Asked) (s : Status) (h : List Event) (text : List ℕ) → IsOfHistory a s h text → AsksHistory a
asks_history a s h text (inl v) = inl (v.command, v.bound, v.due, v.workers, v.words, v.asked)
asks_history a s h text (inr v) = inr v.words

pub complete : (a : Asked) (t : Told) (s : Status) (h : List Event) (text : List ℕ) → IsVerdict a s h text → IsUnhindered a t → IsFree a s
complete a t status.Accepted h text v u = v.words
complete a t status.Clean h text v u = asks_history a status.Clean h text v
complete a t status.Raced h text v u = asks_history a status.Raced h text v
complete a t (status.Spent end) h text v u = asks_history a (status.Spent end) h text v
complete a t (status.Syntax line column) h text (c, v) u =
    let typed = text_typed a t u c v.bytes v.holds.0 v.words v.read v.holds.1 in
    absurd (no_syntax v.holds.0 typed.0 (record { line = line; column = column }) typed.1 v.holds.2)
complete a t (status.IllTyped rule line column) h text (c, v) u =
    let typed = text_typed a t u c v.bytes v.holds.0 v.words v.read v.holds.1 in
    absurd (no_type_fault v.holds.0 typed.0 rule (record { line = line; column = column }) typed.1 v.holds.2)
complete a t (status.NotLegal entry) h text v u = absurd (not_refused v.bytes entry (command_fit a t u command.Replay v.bytes v.words v.read) v.holds)
complete a t (status.NotRun byte) h text v u = absurd (is_a_run v.bytes byte (command_fit a t u command.Replay v.bytes v.words v.read) v.holds)
complete a t status.ReadFault h text v u = absurd (u.source_quiet v.4)
complete a t status.WriteFault h text v u = absurd v
complete a t status.NoMemory h text v u = tt
complete a t status.Usage h text v u = absurd (v.0 u.command u.words)
complete a t status.TooLong h text v u = absurd (not_too_long a t u v.0.0 v.0.1 v.0.2 v.0.3)
