-- Each verdict has one cause, but for want of memory.
use Rattle.std.proofs.Common.{◌≡◌, ◌≢◌, ℕ, ◌-◌, ◌^◌, ◌<◌, ◌≤◌, false, List, [], length, codes, inl, inr, refl, sym, ap, subst, arith}
use Rattle.std.specs.Prelude.{Some, ◌⊎◌}
use Rattle.fut_base.specs.declared.event.Event.{Event}
use Rattle.fut_base.specs.declared.record.Race.{Race}
use Rattle.fut_base.specs.declared.record.Finish.{Finish}
use Rattle.fut_base.specs.Ports.{Rose}
use Rattle.fut_syntax.specs.Trees as tree
use Rattle.command_words.specs.declared.words.Command.{Command}
use Rattle.command_words.specs.declared.words.Command.TheVariants as command
use Rattle.command_words.specs.Asking.{AreWordsOf, most_bytes}
use Rattle.command_words.proofs.Wording.{one_command}
use Rattle.fut_driver.specs.declared.status.Status.{Status}
use Rattle.fut_driver.specs.declared.status.Status.TheVariants as status
use Rattle.fut_driver.specs.declared.form.Form.{Form}
use Rattle.fut_driver.specs.declared.form.Form.TheVariants as form
use Rattle.fut_driver.specs.Due.{form_of, legal_text}
use Rattle.fut_driver.specs.Given.{Asked, Asks}
use Rattle.fut_driver.specs.Laws.{IsTold, AreAlike, AsksOneWorker, TellsRun, SameVerdict, OneVerdict, ReplayAnswersRun}
use Rattle.fut_driver.specs.Verdict.{Reads, AsksRun, Says, IsInput, IsWellTypedText, GaveTooMuch, IsGoodRecord, IsOfHistory, IsVerdict}
use Rattle.fut_driver.proofs.Coming.{Same, IsRunDue, OnOneWorker, Comes, same_by, one_comes}
use Rattle.fut_driver.proofs.Inputs.{all_of, one_taken}
use Rattle.fut_driver.proofs.Consuming.{all_left, not_longer}

-- ---- causes

-- the words have another form
record IsUsageDue (a : Asked) (s : Status) (h : List Event) (text : List ℕ) : Type 0 where
  none : (c : Command) → Asks a c → ⊥
  is : Same s h text status.Usage [] (codes "usage: forder run, serial, replay, check or load\n")

-- a take failed
record IsFaultDue (a : Asked) (s : Status) (h : List Event) (text : List ℕ) : Type 0 where
  command : Command
  words : Asks a command
  reads : Reads command
  rose : Rose a.faults_before a.faults_after
  is : Same s h text status.ReadFault [] (codes "read fault\n")

-- the source gave more than is read
record IsLongDue (a : Asked) (s : Status) (h : List Event) (text : List ℕ) : Type 0 where
  command : Command
  words : Asks a command
  reads : Reads command
  gave : GaveTooMuch a (most_bytes command)
  is : Same s h text status.TooLong [] (codes "too long\n")

-- all bytes were read, and this comes of them
record IsReadDue (a : Asked) (s : Status) (h : List Event) (text : List ℕ) : Type 0 where
  command : Command
  words : Asks a command
  bytes : List ℕ
  read : IsInput a command bytes
  comes : Comes command bytes s h text

abbrev Cause : Asked → Status → List Event → List ℕ → Type 0
Cause a s h text = IsUsageDue a s h text ⊎ (IsFaultDue a s h text ⊎ (IsLongDue a s h text ⊎ IsReadDue a s h text))

of_read : (a : Asked) (c : Command) (bytes : List ℕ) (s : Status) (h : List Event) (text : List ℕ) → Asks a c → IsInput a c bytes → Comes c bytes s h text
    → Cause a s h text
of_read a c bytes s h text words read comes = inr (inr (inr (record { command = c; words = words; bytes = bytes; read = read; comes = comes })))

-- this comes of a record that is accepted
good_comes : (bytes : List ℕ) (P : tree.Program) (h : List Event) (races : List Race) (end : Finish) (s : Status) (text : List ℕ)
    → IsGoodRecord bytes P h races end → Says s end races → text ≡ legal_text (length h) (length races) → Comes command.Replay bytes s h text
good_comes bytes P h races end s text good says due = inr (record {
  program = good.0.program;
  given = (h, races, end, good.0.record_is);
  due = inr (inr (record {
    tree = P;
    typed = good.0.typed;
    due = record { program = good.0.program; events = h; races = races; end = end; record_is = good.0.record_is; judged = inl (good.1, says, refl, due) };
  }));
})

-- this comes of a program that was run
ran_comes : (c : Command) (bound : ℕ) (kept : Form) (workers : ℕ) (bytes : List ℕ) (P : tree.Program) (s : Status) (h : List Event) (text : List ℕ)
    → AsksRun c bound kept workers → IsWellTypedText bytes P → IsRunDue workers bound kept bytes P s h text → Comes c bytes s h text
ran_comes command.Check bound kept workers bytes P s h text asked typed ran = absurd asked
ran_comes command.Replay bound kept workers bytes P s h text asked typed ran = absurd asked
ran_comes (command.Run events brief crew) bound kept workers bytes P s h text (e, f, w) typed ran =
    let due : IsRunDue crew events (form_of brief) bytes P s h text =
    subst (λ n. IsRunDue n events (form_of brief) bytes P s h text) (sym w)
    (subst (λ n. IsRunDue workers n (form_of brief) bytes P s h text) (sym e) (subst (λ x. IsRunDue workers bound x bytes P s h text) (sym f) ran)) in
    inr (record { program = bytes; given = refl; due = inr (inr (record { tree = P; typed = typed; due = due })) })
ran_comes (command.Load side events crew) bound kept workers bytes P s h text (e, f, w) typed ran =
    let due : IsRunDue crew events form.Summed bytes P s h text =
    subst (λ n. IsRunDue n events form.Summed bytes P s h text) (sym w)
    (subst (λ n. IsRunDue workers n form.Summed bytes P s h text) (sym e) (subst (λ x. IsRunDue workers bound x bytes P s h text) (sym f) ran)) in
    inr (record { program = bytes; given = refl; due = inr (inr (record { tree = P; typed = typed; due = due })) })

of_history : (a : Asked) (s : Status) (h : List Event) (text : List ℕ) → IsOfHistory a s h text → Cause a s h text
of_history a s h text (inl v) =
    of_read a v.command v.bytes s h text v.words v.read
    (ran_comes v.command v.bound v.due v.workers v.bytes v.tree s h text v.asked v.program
    (record { races = v.races; end = v.end; cells = v.cells; ends = v.ends; is_due = v.is_due }))
of_history a s h text (inr v) =
    of_read a command.Replay v.bytes s h text v.words v.read (good_comes v.bytes v.tree h v.races v.end s text v.good v.says v.is_due)

cause_of : (a : Asked) (s : Status) (h : List Event) (text : List ℕ) → IsVerdict a s h text → s ≢ status.NoMemory → Cause a s h text
cause_of a status.Clean h text v some = of_history a status.Clean h text v
cause_of a status.Raced h text v some = of_history a status.Raced h text v
cause_of a (status.Spent end) h text v some = of_history a (status.Spent end) h text v
cause_of a status.Accepted h text v some =
    of_read a command.Check v.bytes status.Accepted h text v.words v.read
    (inr (record { program = v.bytes; given = refl; due = inr (inr (record { tree = v.holds.0; typed = v.holds.1; due = (refl, v.no_run, v.holds.2) })) }))
cause_of a (status.Syntax line column) h text (c, v) some =
    of_read a c v.bytes (status.Syntax line column) h text v.words v.read
    (inr
    (record {
      program = v.holds.0;
      given = v.holds.1;
      due = inl (record { place = record { line = line; column = column }; fault = v.holds.2; is = (refl, v.no_run, v.is_due) });
    }))
cause_of a (status.IllTyped rule line column) h text (c, v) some =
    of_read a c v.bytes (status.IllTyped rule line column) h text v.words v.read
    (inr (record {
      program = v.holds.0;
      given = v.holds.1;
      due = inr (inl (record { number = rule; place = record { line = line; column = column }; fault = v.holds.2; is = (refl, v.no_run, v.is_due) }));
    }))
cause_of a (status.NotLegal entry) h text v some =
    let of = v.holds.record_is in
    of_read a command.Replay v.bytes (status.NotLegal entry) h text v.words v.read
    (inr (record {
      program = of.program;
      given = (v.holds.events, v.holds.races, v.holds.end, of.record_is);
      due = inr (inr (record {
        tree = v.holds.tree;
        typed = of.typed;
        due = record {
          program = of.program;
          events = v.holds.events;
          races = v.holds.races;
          end = v.holds.end;
          record_is = of.record_is;
          judged = inr (entry, v.holds.refused, (refl, v.no_run, v.is_due));
        };
      }));
    }))
cause_of a (status.NotRun byte) h text v some =
    of_read a command.Replay v.bytes (status.NotRun byte) h text v.words v.read
    (inl (record { byte = byte; words = refl; fault = v.holds; is = (refl, v.no_run, v.is_due) }))
cause_of a status.TooLong h text v some = inr (inr (inl (record { command = v.0.0; words = v.0.1; reads = v.0.2; gave = v.0.3; is = (refl, v.1, v.2) })))
cause_of a status.ReadFault h text v some = inr (inl (record { command = v.0.0; words = v.0.1; reads = v.0.2; rose = v.4; is = (refl, v.1, v.2) }))
cause_of a status.Usage h text v some = inl (record { none = v.0; is = (refl, v.1, v.2) })
cause_of a status.NoMemory h text v some = absurd (some refl)
cause_of a status.WriteFault h text v some = absurd v

-- ---- one cause

quiet_stays : (before now : ℕ) → before < 2 ^ 64 - 1 → now ≡ before → Rose before now → ⊥
quiet_stays before now less quiet rose = omega (arith, less, quiet, rose)

-- the two calls ask for the same
one_asked : (a b : Asked) (bytes : List ℕ) (alike : AreAlike a b bytes) (c d : Command) → Asks a c → Asks b d → c ≡ d
one_asked a b bytes alike c d x y =
    one_command b.may_run b.words c d (subst (λ m. AreWordsOf m b.words c) alike.may_run (subst (λ w. AreWordsOf a.may_run w c) alike.words x)) y

asked_back : (a b : Asked) (bytes : List ℕ) (alike : AreAlike a b bytes) (c : Command) → Asks b c → Asks a c
asked_back a b bytes alike c y = subst (λ m. AreWordsOf m a.words c) (sym alike.may_run) (subst (λ w. AreWordsOf b.may_run w c) (sym alike.words) y)

asked_on : (a b : Asked) (bytes : List ℕ) (alike : AreAlike a b bytes) (c : Command) → Asks a c → Asks b c
asked_on a b bytes alike c x = subst (λ m. AreWordsOf m b.words c) alike.may_run (subst (λ w. AreWordsOf a.may_run w c) alike.words x)

-- a run that is asked for is one on one worker
on_one : (a : Asked) → AsksOneWorker a → (c : Command) → Asks a c → OnOneWorker c
on_one a one command.Check x = tt
on_one a one command.Replay x = tt
on_one a one (command.Run bound brief workers) x = one (command.Run bound brief workers) bound (form_of brief) workers x (refl, refl, refl)
on_one a one (command.Load side bound workers) x = one (command.Load side bound workers) bound form.Summed workers x (refl, refl, refl)

-- what is read whole is not too long
long_or_read : (a b : Asked) (bytes : List ℕ) (c d : Command) (read : List ℕ) → IsTold a bytes → IsTold b bytes → c ≡ d → Reads c
    → GaveTooMuch a (most_bytes c) → IsInput b d read → ⊥
long_or_read a b bytes c d read x y same reads gave whole =
    let most = not_longer a.left_before a.left_after gave.bytes bytes x.left gave.taken in
    let taken = all_of d b.left_before b.left_after b.ended read (subst Reads same reads) whole.taken in
    let all = all_left b.left_before b.left_after read bytes y.left taken.0 taken.1 in
    omega (arith, most, gave.long, whole.short, ap length all, ap most_bytes same)

one_cause : (a b : Asked) (bytes : List ℕ) (s r : Status) (h g : List Event) (text other : List ℕ) → AreAlike a b bytes → AsksOneWorker a → Cause a s h text
    → Cause b r g other → Same s h text r g other
one_cause a b bytes s r h g text other alike one (inl x) (inl y) = same_by s r status.Usage h g [] text other _ x.is y.is
one_cause a b bytes s r h g text other alike one (inl x) (inr (inl y)) = absurd (x.none y.command (asked_back a b bytes alike y.command y.words))
one_cause a b bytes s r h g text other alike one (inl x) (inr (inr (inl y))) = absurd (x.none y.command (asked_back a b bytes alike y.command y.words))
one_cause a b bytes s r h g text other alike one (inl x) (inr (inr (inr y))) = absurd (x.none y.command (asked_back a b bytes alike y.command y.words))
one_cause a b bytes s r h g text other alike one (inr (inl x)) (inl y) = absurd (y.none x.command (asked_on a b bytes alike x.command x.words))
one_cause a b bytes s r h g text other alike one (inr (inl x)) (inr (inl y)) = same_by s r status.ReadFault h g [] text other _ x.is y.is
one_cause a b bytes s r h g text other alike one (inr (inl x)) (inr (inr (inl y))) =
    absurd (quiet_stays b.faults_before b.faults_after alike.other_told.can_rise y.gave.quiet (alike.failed.0 x.rose))
one_cause a b bytes s r h g text other alike one (inr (inl x)) (inr (inr (inr y))) =
    absurd (quiet_stays b.faults_before b.faults_after alike.other_told.can_rise y.read.quiet (alike.failed.0 x.rose))
one_cause a b bytes s r h g text other alike one (inr (inr (inl x))) (inl y) = absurd (y.none x.command (asked_on a b bytes alike x.command x.words))
one_cause a b bytes s r h g text other alike one (inr (inr (inl x))) (inr (inl y)) =
    absurd (quiet_stays a.faults_before a.faults_after alike.told.can_rise x.gave.quiet (alike.failed.1 y.rose))
one_cause a b bytes s r h g text other alike one (inr (inr (inl x))) (inr (inr (inl y))) = same_by s r status.TooLong h g [] text other _ x.is y.is
one_cause a b bytes s r h g text other alike one (inr (inr (inl x))) (inr (inr (inr y))) =
    absurd
    (long_or_read a b bytes x.command y.command y.bytes alike.told alike.other_told
    (one_asked a b bytes alike x.command y.command x.words y.words) x.reads x.gave y.read)
one_cause a b bytes s r h g text other alike one (inr (inr (inr x))) (inl y) = absurd (y.none x.command (asked_on a b bytes alike x.command x.words))
one_cause a b bytes s r h g text other alike one (inr (inr (inr x))) (inr (inl y)) =
    absurd (quiet_stays a.faults_before a.faults_after alike.told.can_rise x.read.quiet (alike.failed.1 y.rose))
one_cause a b bytes s r h g text other alike one (inr (inr (inr x))) (inr (inr (inl y))) =
    absurd
    (long_or_read b a bytes y.command x.command x.bytes alike.other_told alike.told
    (sym (one_asked a b bytes alike x.command y.command x.words y.words)) y.reads y.gave x.read)
one_cause a b bytes s r h g text other alike one (inr (inr (inr x))) (inr (inr (inr y))) =
    let same = one_asked a b bytes alike x.command y.command x.words y.words in
    let mine = subst (λ c. IsInput a c x.bytes) same x.read in
    let bytes_are : x.bytes ≡ y.bytes =
    one_taken y.command a.left_before a.left_after a.ended x.bytes b.left_before b.left_after b.ended y.bytes bytes alike.told.left alike.other_told.left
    mine.taken y.read.taken in
    one_comes y.command y.bytes s r h g text other (on_one a one y.command (asked_back a b bytes alike y.command y.words))
    (subst (λ c. Comes c y.bytes s h text) same (subst (λ bs. Comes x.command bs s h text) bytes_are x.comes))
    y.comes

pub same_verdict : SameVerdict
same_verdict a b bytes s r h g text other alike one x y some another =
    one_cause a b bytes s r h g text other alike one (cause_of a s h text x some) (cause_of b r g other y another)

pub one_verdict : OneVerdict
one_verdict a bytes s r h g text other told one x y some another =
    same_verdict a a bytes s r h g text other
    (record { may_run = refl; words = refl; told = told; other_told = told; failed = ((λ rose. rose), λ rose. rose) })
    one x y some another

-- ---- a run and its replay

history_of : (a : Asked) (s : Status) (h : List Event) (text : List ℕ) → TellsRun s → IsVerdict a s h text → IsOfHistory a s h text
history_of a status.Clean h text tells v = v
history_of a status.Raced h text tells v = v
history_of a (status.Spent end) h text tells v = v
history_of a status.Accepted h text tells v = absurd tells
history_of a (status.Syntax _ _) h text tells v = absurd tells
history_of a (status.IllTyped _ _ _) h text tells v = absurd tells
history_of a (status.NotLegal _) h text tells v = absurd tells
history_of a (status.NotRun _) h text tells v = absurd tells
history_of a status.ReadFault h text tells v = absurd tells
history_of a status.WriteFault h text tells v = absurd tells
history_of a status.NoMemory h text tells v = absurd tells
history_of a status.Usage h text tells v = absurd tells
history_of a status.TooLong h text tells v = absurd tells

-- the record that a run wrote is one that is accepted, and the status says how it ended
record WroteRecord (s : Status) (h : List Event) (text : List ℕ) : Type 0 where
  tree : tree.Program
  races : List Race
  end : Finish
  good : IsGoodRecord text tree h races end
  says : Says s end races

wrote_record : (a : Asked) (bound workers : ℕ) (s : Status) (h : List Event) (text : List ℕ) → Asks a (command.Run bound false workers)
    → IsOfHistory a s h text → WroteRecord s h text
wrote_record a bound workers s h text words (inl v) = record {
  tree = v.tree;
  races = v.races;
  end = v.end;
  good =
      v.replayed
      (sym
      (subst (λ c. AsksRun c v.bound v.due v.workers) (one_command a.may_run a.words v.command (command.Run bound false workers) v.words words) v.asked).1);
  says = v.ends.1;
}
wrote_record a bound workers s h text words (inr v) =
    absurd
    (let same : command.Replay ≡ command.Run bound false workers =
    one_command a.may_run a.words command.Replay (command.Run bound false workers) v.words words in cc)

replayed : (b : Asked) (s r : Status) (h g : List Event) (text other : List ℕ) → WroteRecord s h text → Asks b command.Replay → b.left_before ≡ Some text
    → length text ≤ most_bytes command.Replay → (Rose b.faults_before b.faults_after → ⊥) → Cause b r g other → (r ≡ s) × (g ≡ h)
replayed b s r h g text other wrote words left short quiet (inl x) = absurd (x.none command.Replay words)
replayed b s r h g text other wrote words left short quiet (inr (inl x)) = absurd (quiet x.rose)
replayed b s r h g text other wrote words left short quiet (inr (inr (inl x))) =
    let most = not_longer b.left_before b.left_after x.gave.bytes text left x.gave.taken in
    let same = one_command b.may_run b.words x.command command.Replay x.words words in
    absurd (omega (arith, most, x.gave.long, short, ap most_bytes same))
replayed b s r h g text other wrote words left short quiet (inr (inr (inr x))) =
    let same = one_command b.may_run b.words x.command command.Replay x.words words in
    let read = subst (λ c. IsInput b c x.bytes) same x.read in
    let all = all_left b.left_before b.left_after x.bytes text left read.taken.0 read.taken.1 in
    let due = legal_text (length h) (length wrote.races) in
    let one = one_comes command.Replay text r s g h other due tt
    (subst (λ c. Comes c text r g other) same (subst (λ bs. Comes x.command bs r g other) all x.comes))
    (good_comes text wrote.tree h wrote.races wrote.end s due wrote.good wrote.says refl) in
    (one.0, one.1)

pub replay_answers_run : ReplayAnswersRun
replay_answers_run a b bound workers s r h g text other words tells v replays left short quiet w some =
    replayed b s r h g text other (wrote_record a bound workers s h text words (history_of a s h text tells v)) replays left short quiet
    (cause_of b r g other w some)
