-- Words that begin with the name of a command.
use Rattle.std.proofs.Common.{◌≡◌, ℕ, Bool, true, false, List, [], ◌∷◌, inl, inr, refl, sym, ap, ◌∙◌, subst, arith, codes, slice_index}
use Rattle.std.specs.Prelude.{nat_lt, Option, Some, None, MatchOption}
use Rattle.command_words.specs.declared.options.Choice.{Choice}
use Rattle.command_words.specs.declared.options.Choice.TheVariants as choice
use Rattle.command_words.specs.declared.words.Command.{Command}
use Rattle.command_words.specs.declared.words.Command.TheVariants as command
use Rattle.command_words.proofs.Choosing.{one_options}
use Rattle.command_words.specs.declared.options.Kind.{Kind}
use Rattle.command_words.specs.declared.options.Kind.TheVariants as kind
use Rattle.command_words.specs.Asking.{count, is_brief, EachMayStand, bound_of, workers_of, side_of, unnamed_workers, IsBound}
use Rattle.command_words.specs.Asking.{AreWorkers, IsSide, IsBounded, AreOptions, AreOptionsOfLoad, AreWordsOf, Commands}

-- two lists that are one begin with one item
pub same_head : (words : List (List ℕ)) (x y : List ℕ) (xs ys : List (List ℕ)) → words ≡ x ∷ xs → words ≡ y ∷ ys → x ≡ y
same_head words x y xs ys e f = let q : x ∷ xs ≡ y ∷ ys = sym e ∙ f in cc

same_rest : (words : List (List ℕ)) (x : List ℕ) (xs ys : List (List ℕ)) → words ≡ x ∷ xs → words ≡ x ∷ ys → ys ≡ xs
same_rest words x xs ys e f = let q : x ∷ ys ≡ x ∷ xs = sym f ∙ e in cc

-- the first letters, and the second ones where those are the same
serial_check : codes "serial" ≡ codes "check" → ⊥
serial_check e = let bad : ◌≡◌ {A = ℕ} 115 99 = ap (λ w. slice_index w 0) e in omega (arith, bad)

pub serial_replay : codes "serial" ≡ codes "replay" → ⊥
serial_replay e = let bad : ◌≡◌ {A = ℕ} 115 114 = ap (λ w. slice_index w 0) e in omega (arith, bad)

serial_run : codes "serial" ≡ codes "run" → ⊥
serial_run e = let bad : ◌≡◌ {A = ℕ} 115 114 = ap (λ w. slice_index w 0) e in omega (arith, bad)

run_check : codes "run" ≡ codes "check" → ⊥
run_check e = let bad : ◌≡◌ {A = ℕ} 114 99 = ap (λ w. slice_index w 0) e in omega (arith, bad)

pub run_replay : codes "run" ≡ codes "replay" → ⊥
run_replay e = let bad : ◌≡◌ {A = ℕ} 117 101 = ap (λ w. slice_index w 1) e in omega (arith, bad)

pub check_replay : codes "check" ≡ codes "replay" → ⊥
check_replay e = let bad : ◌≡◌ {A = ℕ} 99 114 = ap (λ w. slice_index w 0) e in omega (arith, bad)

serial_load : codes "serial" ≡ codes "load" → ⊥
serial_load e = let bad : ◌≡◌ {A = ℕ} 115 108 = ap (λ w. slice_index w 0) e in omega (arith, bad)

run_load : codes "run" ≡ codes "load" → ⊥
run_load e = let bad : ◌≡◌ {A = ℕ} 114 108 = ap (λ w. slice_index w 0) e in omega (arith, bad)

pub check_load : codes "check" ≡ codes "load" → ⊥
check_load e = let bad : ◌≡◌ {A = ℕ} 99 108 = ap (λ w. slice_index w 0) e in omega (arith, bad)

pub replay_load : codes "replay" ≡ codes "load" → ⊥
replay_load e = let bad : ◌≡◌ {A = ℕ} 114 108 = ap (λ w. slice_index w 0) e in omega (arith, bad)

-- a run with these options, or none
abbrev pub IsRunWith : Kind → List (List ℕ) → Option Command → Type 0
IsRunWith k rest r = MatchOption r
    ((events : ℕ) (brief : Bool) (crew : ℕ) → AreOptions k rest events brief crew None → ⊥)
    (λ c. (events : ℕ) × (brief : Bool) × (crew : ℕ) × (c ≡ command.Run events brief crew) × AreOptions k rest events brief crew None)

-- a run of the grid with these options, or none
abbrev pub IsLoadWith : List (List ℕ) → Option Command → Type 0
IsLoadWith rest r = MatchOption r
    ((side events crew : ℕ) → AreOptionsOfLoad rest side events crew → ⊥)
    (λ c. (side : ℕ) × (events : ℕ) × (crew : ℕ) × (c ≡ command.Load side events crew) × AreOptionsOfLoad rest side events crew)

-- options that name a side are no others
pub no_load : (words : List (List ℕ)) (m : ℕ) (b : Bool) (i : ℕ) (s : Option ℕ) → s ≡ None → AreOptions kind.Load words m b i s → (side events crew : ℕ)
    → AreOptionsOfLoad words side events crew → ⊥
no_load words m b i s none o side events crew p =
    let same = one_options kind.Load words m events b false i crew s (Some side) o p in
    let both : None ≡ Some side = sym none ∙ same.3 in cc

pub no_run : (k : Kind) (words : List (List ℕ)) (m : ℕ) (b : Bool) (i : ℕ) (s : Option ℕ) (side : ℕ) → s ≡ Some side → AreOptions k words m b i s
    → (events : ℕ) (brief : Bool) (crew : ℕ) → AreOptions k words events brief crew None → ⊥
no_run k words m b i s side named o events brief crew p =
    let same = one_options k words m events b brief i crew s None o p in
    let both : Some side ≡ None = sym named ∙ same.3 in cc

-- `load` has no `--brief`
no_briefs : (cs : List Choice) → EachMayStand kind.Load cs → count is_brief cs ≡ 0
no_briefs [] each = refl
no_briefs (choice.Events n ∷ cs) each = let none = no_briefs cs each.1 in omega (arith, none)
no_briefs (choice.Brief ∷ cs) each = absurd (let no : false ≡ true = each.0.0 in cc)
no_briefs (choice.Workers n ∷ cs) each = let none = no_briefs cs each.1 in omega (arith, none)
no_briefs (choice.Side n ∷ cs) each = let none = no_briefs cs each.1 in omega (arith, none)

pub load_with : (words : List (List ℕ)) (m : ℕ) (b : Bool) (i : ℕ) (s : Option ℕ) (side : ℕ) → s ≡ Some side → AreOptions kind.Load words m b i s
    → AreOptionsOfLoad words side m i
load_with words m b i s side named o =
    let not_brief : b ≡ false = o.brief_is ∙ ap (nat_lt 0) (no_briefs o.choices o.allowed) in
    subst (λ x. AreOptions kind.Load words m false i x) named (subst (λ x. AreOptions kind.Load words m x i s) not_brief o)

serial_none : (m : Bool) (words rest : List (List ℕ)) → words ≡ codes "serial" ∷ rest
    → ((events : ℕ) (brief : Bool) (crew : ℕ) → AreOptions kind.Serial rest events brief crew None → ⊥) → (c : Command) → AreWordsOf m words c → ⊥
serial_none m words rest e none command.Check w = serial_check (same_head words _ _ _ _ e w)
serial_none m words rest e none command.Replay w = serial_replay (same_head words _ _ _ _ e w)
serial_none m words rest e none (command.Run events brief crew) (inl w) =
    none events brief crew (subst (λ r. AreOptions kind.Serial r events brief crew None) (same_rest words _ rest w.0 e w.1) w.2)
serial_none m words rest e none (command.Run events brief crew) (inr w) = serial_run (same_head words _ _ _ _ e w.2)
serial_none m words rest e none (command.Load side events crew) w = serial_load (same_head words _ _ _ _ e w.2)

pub for_serial : (m : Bool) (words rest : List (List ℕ)) (r : Option Command) → words ≡ codes "serial" ∷ rest → IsRunWith kind.Serial rest r
    → Commands m words r
for_serial m words rest None e none = serial_none m words rest e none
for_serial m words rest (Some c) e some = subst (AreWordsOf m words) (sym some.3) (inl (rest, e, some.4))

run_none : (m : Bool) (words rest : List (List ℕ)) → words ≡ codes "run" ∷ rest
    → ((events : ℕ) (brief : Bool) (crew : ℕ) → AreOptions kind.Run rest events brief crew None → ⊥) → (c : Command) → AreWordsOf m words c → ⊥
run_none m words rest e none command.Check w = run_check (same_head words _ _ _ _ e w)
run_none m words rest e none command.Replay w = run_replay (same_head words _ _ _ _ e w)
run_none m words rest e none (command.Run events brief crew) (inl w) = serial_run (sym (same_head words _ _ _ _ e w.1))
run_none m words rest e none (command.Run events brief crew) (inr w) =
    none events brief crew (subst (λ r. AreOptions kind.Run r events brief crew None) (same_rest words _ rest w.0 e w.2) w.3)
run_none m words rest e none (command.Load side events crew) w = run_load (same_head words _ _ _ _ e w.2)

pub for_run : (m : Bool) (words rest : List (List ℕ)) (r : Option Command) → m ≡ true → words ≡ codes "run" ∷ rest → IsRunWith kind.Run rest r
    → Commands m words r
for_run m words rest None may e none = run_none m words rest e none
for_run m words rest (Some c) may e some = subst (AreWordsOf m words) (sym some.3) (inr (rest, may, e, some.4))

load_none : (m : Bool) (words rest : List (List ℕ)) → words ≡ codes "load" ∷ rest → ((side events crew : ℕ) → AreOptionsOfLoad rest side events crew → ⊥)
    → (c : Command) → AreWordsOf m words c → ⊥
load_none m words rest e none command.Check w = check_load (same_head words _ _ _ _ w e)
load_none m words rest e none command.Replay w = replay_load (same_head words _ _ _ _ w e)
load_none m words rest e none (command.Run events brief crew) (inl w) = serial_load (same_head words _ _ _ _ w.1 e)
load_none m words rest e none (command.Run events brief crew) (inr w) = run_load (same_head words _ _ _ _ w.2 e)
load_none m words rest e none (command.Load side events crew) w =
    none side events crew (subst (λ r. AreOptionsOfLoad r side events crew) (same_rest words _ rest w.0 e w.2) w.3)

pub for_load : (m : Bool) (words rest : List (List ℕ)) (r : Option Command) → m ≡ true → words ≡ codes "load" ∷ rest → IsLoadWith rest r → Commands m words r
for_load m words rest None may e none = load_none m words rest e none
for_load m words rest (Some c) may e some = subst (AreWordsOf m words) (sym some.3) (rest, may, e, some.4)

-- ---- bounds

in_range : (k : Kind) (cs : List Choice) → EachMayStand k cs → IsBound (bound_of cs)
in_range k [] each = (omega arith, omega arith)
in_range k (choice.Events n ∷ cs) each = each.0.1
in_range k (choice.Brief ∷ cs) each = in_range k cs each.1
in_range k (choice.Workers n ∷ cs) each = in_range k cs each.1
in_range k (choice.Side n ∷ cs) each = in_range k cs each.1

crew_in_range : (k : Kind) (unnamed : ℕ) (cs : List Choice) → AreWorkers unnamed → EachMayStand k cs → AreWorkers (workers_of unnamed cs)
crew_in_range k unnamed [] u each = u
crew_in_range k unnamed (choice.Events n ∷ cs) u each = crew_in_range k unnamed cs u each.1
crew_in_range k unnamed (choice.Brief ∷ cs) u each = crew_in_range k unnamed cs u each.1
crew_in_range k unnamed (choice.Workers n ∷ cs) u each = each.0.1
crew_in_range k unnamed (choice.Side n ∷ cs) u each = crew_in_range k unnamed cs u each.1

unnamed_in_range : (k : Kind) → AreWorkers (unnamed_workers k)
unnamed_in_range kind.Serial = (omega arith, omega arith)
unnamed_in_range kind.Run = (omega arith, omega arith)
unnamed_in_range kind.Load = (omega arith, omega arith)

same_side : (m n : ℕ) → Some m ≡ Some n → m ≡ n
same_side m n e = cc

side_in_range : (k : Kind) (cs : List Choice) (side : ℕ) → EachMayStand k cs → Some side ≡ side_of cs → IsSide side
side_in_range k [] side each e = absurd (cc)
side_in_range k (choice.Events n ∷ cs) side each e = side_in_range k cs side each.1 e
side_in_range k (choice.Brief ∷ cs) side each e = side_in_range k cs side each.1 e
side_in_range k (choice.Workers n ∷ cs) side each e = side_in_range k cs side each.1 e
side_in_range k (choice.Side n ∷ cs) side each e = subst IsSide (sym (same_side side n e)) each.0.1

options_bounded : (k : Kind) (rest : List (List ℕ)) (events : ℕ) (brief : Bool) (crew : ℕ) (side : Option ℕ) → AreOptions k rest events brief crew side
    → IsBound events × AreWorkers crew
options_bounded k rest events brief crew side are = (
  subst IsBound (sym are.bound) (in_range k are.choices are.allowed),
  subst AreWorkers (sym are.workers_are) (crew_in_range k (unnamed_workers k) are.choices (unnamed_in_range k) are.allowed),
)

pub bounded : (m : Bool) (words : List (List ℕ)) (c : Command) → AreWordsOf m words c → IsBounded c
bounded m words command.Check w = tt
bounded m words command.Replay w = tt
bounded m words (command.Run events brief crew) (inl w) = options_bounded kind.Serial w.0 events brief crew None w.2
bounded m words (command.Run events brief crew) (inr w) = options_bounded kind.Run w.0 events brief crew None w.3
bounded m words (command.Load side events crew) w =
    let both = options_bounded kind.Load w.0 events false crew (Some side) w.3 in
    (side_in_range kind.Load w.3.choices side w.3.allowed w.3.side_is, both)

-- ---- one command

one_run : (k : Kind) (x y : List (List ℕ)) (m n : ℕ) (b d : Bool) (i j : ℕ) → x ≡ y → AreOptions k x m b i None → AreOptions k y n d j None
    → command.Run m b i ≡ command.Run n d j
one_run k x y m n b d i j e p q =
    let same = one_options k y m n b d i j None None (subst (λ r. AreOptions k r m b i None) e p) q in
    ap (λ x. command.Run x b i) same.0 ∙ (ap (λ x. command.Run n x i) same.1 ∙ ap (λ x. command.Run n d x) same.2)

one_load : (x y : List (List ℕ)) (s t m n i j : ℕ) → x ≡ y → AreOptionsOfLoad x s m i → AreOptionsOfLoad y t n j → command.Load s m i ≡ command.Load t n j
one_load x y s t m n i j e p q =
    let same = one_options kind.Load y m n false false i j (Some s) (Some t) (subst (λ r. AreOptionsOfLoad r s m i) e p) q in
    ap (λ x. command.Load x m i) (same_side s t same.3) ∙ (ap (λ x. command.Load t x i) same.0 ∙ ap (λ x. command.Load t n x) same.2)

pub one_command : (m : Bool) (words : List (List ℕ)) (c d : Command) → AreWordsOf m words c → AreWordsOf m words d → c ≡ d
one_command m words command.Check command.Check v w = refl
one_command m words command.Check command.Replay v w = absurd (check_replay (same_head words _ _ _ _ v w))
one_command m words command.Check (command.Run _ _ _) v (inl w) = absurd (serial_check (same_head words _ _ _ _ w.1 v))
one_command m words command.Check (command.Run _ _ _) v (inr w) = absurd (run_check (same_head words _ _ _ _ w.2 v))
one_command m words command.Check (command.Load _ _ _) v w = absurd (check_load (same_head words _ _ _ _ v w.2))
one_command m words command.Replay command.Check v w = absurd (check_replay (same_head words _ _ _ _ w v))
one_command m words command.Replay command.Replay v w = refl
one_command m words command.Replay (command.Run _ _ _) v (inl w) = absurd (serial_replay (same_head words _ _ _ _ w.1 v))
one_command m words command.Replay (command.Run _ _ _) v (inr w) = absurd (run_replay (same_head words _ _ _ _ w.2 v))
one_command m words command.Replay (command.Load _ _ _) v w = absurd (replay_load (same_head words _ _ _ _ v w.2))
one_command m words (command.Run _ _ _) command.Check (inl v) w = absurd (serial_check (same_head words _ _ _ _ v.1 w))
one_command m words (command.Run _ _ _) command.Replay (inl v) w = absurd (serial_replay (same_head words _ _ _ _ v.1 w))
one_command m words (command.Run i b k) (command.Run j d l) (inl v) (inl w) =
    one_run kind.Serial v.0 w.0 i j b d k l (same_rest words _ w.0 v.0 w.1 v.1) v.2 w.2
one_command m words (command.Run _ _ _) (command.Run _ _ _) (inl v) (inr w) = absurd (serial_run (same_head words _ _ _ _ v.1 w.2))
one_command m words (command.Run _ _ _) (command.Load _ _ _) (inl v) w = absurd (serial_load (same_head words _ _ _ _ v.1 w.2))
one_command m words (command.Run _ _ _) command.Check (inr v) w = absurd (run_check (same_head words _ _ _ _ v.2 w))
one_command m words (command.Run _ _ _) command.Replay (inr v) w = absurd (run_replay (same_head words _ _ _ _ v.2 w))
one_command m words (command.Run _ _ _) (command.Run _ _ _) (inr v) (inl w) = absurd (serial_run (same_head words _ _ _ _ w.1 v.2))
one_command m words (command.Run i b k) (command.Run j d l) (inr v) (inr w) = one_run kind.Run v.0 w.0 i j b d k l (same_rest words _ w.0 v.0 w.2 v.2) v.3 w.3
one_command m words (command.Run _ _ _) (command.Load _ _ _) (inr v) w = absurd (run_load (same_head words _ _ _ _ v.2 w.2))
one_command m words (command.Load _ _ _) command.Check v w = absurd (check_load (same_head words _ _ _ _ w v.2))
one_command m words (command.Load _ _ _) command.Replay v w = absurd (replay_load (same_head words _ _ _ _ w v.2))
one_command m words (command.Load _ _ _) (command.Run _ _ _) v (inl w) = absurd (serial_load (same_head words _ _ _ _ w.1 v.2))
one_command m words (command.Load _ _ _) (command.Run _ _ _) v (inr w) = absurd (run_load (same_head words _ _ _ _ w.2 v.2))
one_command m words (command.Load s i k) (command.Load t j l) v w = one_load v.0 w.0 s t i j k l (same_rest words _ w.0 v.0 w.2 v.2) v.3 w.3
