-- From what is due to what is answered.
use Rattle.std.proofs.Common.{◌≡◌, ◌≢◌, ℕ, ◌≤◌, Bool, true, false, List, [], ◌∷◌, length, inl, inr, refl, sym, ap, ◌∙◌, subst, arith}
use Rattle.std.specs.Prelude.{◌⊎◌, None}
use Rattle.std.specs.Io.KnownBytes.{Appends}
use Rattle.fut_base.specs.declared.event.Event.{Event}
use Rattle.fut_base.specs.Events.{events_of}
use Rattle.fut_syntax.specs.Trees as tree
use Rattle.command_words.specs.declared.options.Choice.{Choice}
use Rattle.command_words.specs.declared.options.Choice.TheVariants as choice
use Rattle.command_words.specs.declared.options.Kind.TheVariants as kind
use Rattle.command_words.specs.declared.words.Command.{Command}
use Rattle.command_words.specs.declared.words.Command.TheVariants as command
use Rattle.command_words.specs.Asking.{EachMayStand, workers_of, AreOptions, AreWordsOf, most_bytes}
use Rattle.fut_driver.specs.declared.form.Form.{Form}
use Rattle.fut_driver.specs.declared.status.Status.{Status}
use Rattle.fut_driver.specs.declared.status.Status.TheVariants as status
use Rattle.fut_driver.specs.declared.status.Ended.{Ended}
use Rattle.fut_driver.specs.declared.outcome.Outcome.{Outcome}
use Rattle.fut_driver.specs.declared.job.Job.{Job}
use Rattle.fut_driver.specs.declared.job.Prepared.{Prepared}
use Rattle.fut_driver.specs.declared.job.Prepared.TheVariants as prepared
use Rattle.fut_driver.specs.Given.{Asked, Told, Asks}
use Rattle.fut_driver.specs.Due.{due_text}
use Rattle.fut_driver.specs.Outcomes.{RanAs, IsJob, IsAsked, IsPrepared, IsJudged, IsUsage, IsEnding}
use Rattle.fut_driver.specs.Verdict.{AsksRun, IsTaken, IsInput, Says, IsVerdict, IsAnswer, IsUnhindered, IsFree}
use Rattle.fut_driver.proofs.Completing.{complete}
use Rattle.fut_driver.proofs.Endings.{run_verdict, not_usage}

-- ---- what was read

-- what comes of the bytes that a command read comes of the call
pub judged : (a : Asked) (c : Command) (bytes : List ℕ) (p : Prepared) → Asks a c → IsInput a c bytes → IsPrepared c bytes p → IsJudged a p
judged a c bytes (prepared.Done o) asks read is = is a asks read
judged a c bytes (prepared.Due job) asks read is =
    record { command = c; words = asks; asked = is.0; read = subst (IsInput a c) (sym is.1) read; job_is = is.2 }

-- and it is no usage
pub no_usage : (m : Bool) (words : List (List ℕ)) (c : Command) (bytes : List ℕ) (p : Prepared) → AreWordsOf m words c → length bytes ≤ most_bytes c
    → IsTaken c None None true bytes → IsPrepared c bytes p → IsUsage p → ⊥
no_usage m words c bytes (prepared.Done o) asks short taken is usage =
    not_usage m words c bytes o.status (events_of o.history) o.text.items asks short taken is usage
no_usage m words c bytes (prepared.Due job) asks short taken is usage = usage

-- ---- jobs

none_named : (cs : List Choice) → EachMayStand kind.Serial cs → workers_of 1 cs ≡ 1
none_named [] each = refl
none_named (choice.Events n ∷ cs) each = none_named cs each.1
none_named (choice.Brief ∷ cs) each = none_named cs each.1
none_named (choice.Workers n ∷ cs) each = absurd (let no : false ≡ true = each.0.0 in cc)
none_named (choice.Side n ∷ cs) each = absurd (let no : false ≡ true = each.0.0 in cc)

-- where no runs on workers are made, no job is asked for
pub no_job : (words : List (List ℕ)) (c : Command) (bound : ℕ) (kept : Form) (workers : ℕ) → AreWordsOf false words c → AsksRun c bound kept workers
    → workers ≢ 1 → ⊥
no_job words command.Check bound kept workers w asked several = asked
no_job words command.Replay bound kept workers w asked several = asked
no_job words (command.Run events brief crew) bound kept workers (inl (rest, is, o)) asked several =
    several (sym asked.2 ∙ (o.workers_are ∙ none_named o.choices o.allowed))
no_job words (command.Run events brief crew) bound kept workers (inr w) asked several = let no : false ≡ true = w.1 in cc
no_job words (command.Load side events crew) bound kept workers w asked several = let no : false ≡ true = w.1 in cc

-- what came of a job is a verdict
pub job_verdict : (a : Asked) (job : Job) (s : Status) (h : List Event) (made : List ℕ) → IsAsked a job
    → ((P : tree.Program) → IsJob P job → RanAs P job.workers job.events job.form job.text.items s h made) → IsVerdict a s h (due_text s made)
job_verdict a job s h made asked ran =
    let P = asked.job_is.0 in
    let is = asked.job_is.1 in
    run_verdict a asked.command job.workers job.events job.form job.text.items P s h made asked.asked is.typed (ran P is) asked.words asked.read

-- and no usage
ran_is_no_usage : (P : tree.Program) (workers bound : ℕ) (kept : Form) (text : List ℕ) (s : Status) (h : List Event) (made : List ℕ)
    → RanAs P workers bound kept text s h made → s ≡ status.Usage → ⊥
ran_is_no_usage P workers bound kept text s h made ran is = subst (λ x. Says x ran.end ran.races) is ran.ends.1

pub job_no_usage : (P : tree.Program) (job : Job) (s : Status) (h : List Event) (made : List ℕ) → IsJob P job
    → ((Q : tree.Program) → IsJob Q job → RanAs Q job.workers job.events job.form job.text.items s h made) → s ≡ status.Usage → ⊥
job_no_usage P job s h made is ran = ran_is_no_usage P job.workers job.events job.form job.text.items s h made (ran P is)

-- ---- what is answered

answered : (a : Asked) (t : Told) (s : Status) (h : List Event) (text : List ℕ) → IsVerdict a s h text → Appends t.held_before t.held_after text
    → t.faults_after ≡ t.faults_before → IsAnswer a t s h
answered a t status.Clean h text v added quiet = record { text = text; verdict = v; added = added; quiet = quiet }
answered a t status.Raced h text v added quiet = record { text = text; verdict = v; added = added; quiet = quiet }
answered a t (status.Spent end) h text v added quiet = record { text = text; verdict = v; added = added; quiet = quiet }
answered a t status.Accepted h text v added quiet = record { text = text; verdict = v; added = added; quiet = quiet }
answered a t (status.Syntax line column) h text v added quiet = record { text = text; verdict = v; added = added; quiet = quiet }
answered a t (status.IllTyped rule line column) h text v added quiet = record { text = text; verdict = v; added = added; quiet = quiet }
answered a t (status.NotLegal entry) h text v added quiet = record { text = text; verdict = v; added = added; quiet = quiet }
answered a t (status.NotRun byte) h text v added quiet = record { text = text; verdict = v; added = added; quiet = quiet }
answered a t status.TooLong h text v added quiet = record { text = text; verdict = v; added = added; quiet = quiet }
answered a t status.ReadFault h text v added quiet = record { text = text; verdict = v; added = added; quiet = quiet }
answered a t status.NoMemory h text v added quiet = record { text = text; verdict = v; added = added; quiet = quiet }
answered a t status.Usage h text v added quiet = record { text = text; verdict = v; added = added; quiet = quiet }
answered a t status.WriteFault h text v added quiet = absurd v

-- the text of a verdict was written, or a put failed
pub ending_answers : (a : Asked) (t : Told) (o : Outcome) (e : Ended) → IsVerdict a o.status (events_of o.history) (due_text o.status o.text.items)
    → IsEnding o t e → IsAnswer a t e.status (events_of e.history)
ending_answers a t o e v (same, inl (is, (added, quiet))) =
    subst (λ h. IsAnswer a t e.status h) (sym same)
    (subst (λ s. IsAnswer a t s (events_of o.history)) (sym is) (answered a t o.status (events_of o.history) (due_text o.status o.text.items) v added quiet))
ending_answers a t o e v (same, inr (is, (added, fewer, rose))) =
    subst (λ h. IsAnswer a t e.status h) (sym same)
    (subst (λ s. IsAnswer a t s (events_of o.history)) (sym is)
    (record { status = o.status; text = due_text o.status o.text.items; verdict = v; added = added; fewer = fewer; rose = rose }))

pub ending_is_free : (a : Asked) (t : Told) (o : Outcome) (e : Ended) → IsVerdict a o.status (events_of o.history) (due_text o.status o.text.items)
    → IsEnding o t e → IsUnhindered a t → IsFree a e.status
ending_is_free a t o e v (same, inl (is, w)) u = subst (IsFree a) (sym is) (complete a t o.status (events_of o.history) (due_text o.status o.text.items) v u)
ending_is_free a t o e v (same, inr (is, w)) u = absurd (u.sink_quiet w.2)

-- where the answer is usage, so is the outcome
pub ending_of_usage : (t : Told) (o : Outcome) (e : Ended) → IsEnding o t e → e.status ≡ status.Usage → o.status ≡ status.Usage
ending_of_usage t o e (same, inl (is, w)) usage = subst (λ s. s ≡ status.Usage) is usage
ending_of_usage t o e (same, inr (is, w)) usage = absurd (let no : status.WriteFault ≡ status.Usage = subst (λ s. s ≡ status.Usage) is usage in cc)
