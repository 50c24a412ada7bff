-- Options read one after the other.
use Rattle.std.proofs.Common.{◌≡◌, ℕ, ◌+◌, ◌≤◌, ◌<◌, ◌^◌, Bool, true, false, List, [], ◌∷◌, ◌++◌, length, refl}
use Rattle.std.proofs.Common.{sym, ap, ◌∙◌, subst, arith, codes, decimal, map, get_or, Result, Ok, append_assoc}
use Rattle.std.specs.Prelude.{nat_lt, Option, Some, is_some}
use Rattle.std.specs.Str.Parse.{ParsesUnsigned}
use Rattle.std.proofs.lemmas.Fmt.{parse-decimal, decimal_injective, first_decimal}
use Rattle.std.proofs.lemmas.List.{append-nil, length-map}
use Rattle.fut_base.specs.declared.limits.TheConstants.{MOST_ENTRIES, MOST_WORKERS}
use Rattle.command_words.specs.declared.options.TheConstants.{MOST_SIDE}
use Rattle.command_words.specs.declared.options.Kind.{Kind}
use Rattle.command_words.specs.declared.options.Choice.{Choice}
use Rattle.command_words.specs.declared.options.Choice.TheVariants as choice
use Rattle.command_words.specs.declared.options.Seen as declared
use Rattle.command_words.specs.Asking.{IsFromOneTo, IsInRange, is_option_of, MayStand, EachMayStand, spelling, spellings, times, count, IsOnce, is_events}
use Rattle.command_words.specs.Asking.{is_brief, is_workers, is_side, bound_of, is_brief_in, workers_of, side_of, unnamed_workers, AreOptions}
use Rattle.command_words.specs.Seen.{IsSeen, IsAgain}

-- the number that a written one is read as
pub read_number : {E : Type 0} (most n : ℕ) (bs : List ℕ) (r : Result ℕ E) → most < 2 ^ 32 → IsFromOneTo most n → bs ≡ decimal n → ParsesUnsigned 32 10 bs r
    → r ≡ Ok n
read_number most n bs r few b e p = parse-decimal 32 n bs r (omega (arith, few, b.1)) (omega (arith, few, b.1)) e p

-- options that were read, and the words behind them
pub record IsSoFar (k : Kind) (words rest : List (List ℕ)) (seen : declared.Seen) : Type 0 where
  pub done : List Choice
  pub written : words ≡ spellings done ++ rest
  pub allowed : EachMayStand k done
  pub seen_is : IsSeen (unnamed_workers k) done seen

-- ---- one more

each_more : (k : Kind) (cs : List Choice) (c : Choice) → EachMayStand k cs → MayStand k c → EachMayStand k (cs ++ c ∷ [])
each_more k [] c each may = (may, tt)
each_more k (d ∷ ds) c each may = (each.0, each_more k ds c each.1 may)

spellings_more : (cs : List Choice) (c : Choice) (rest : List (List ℕ)) → spellings cs ++ (spelling c ++ rest) ≡ spellings (cs ++ c ∷ []) ++ rest
spellings_more [] c rest = ap (λ x. x ++ rest) (sym (append-nil (spelling c)))
spellings_more (d ∷ ds) c rest =
    append_assoc (spelling d) (spellings ds) (spelling c ++ rest)
    ∙ (ap (λ x. spelling d ++ x) (spellings_more ds c rest) ∙ sym (append_assoc (spelling d) (spellings (ds ++ c ∷ [])) rest))

pub one_more : (k : Kind) (words rest more : List (List ℕ)) (seen new : declared.Seen) (c : Choice) (so_far : IsSoFar k words rest seen)
    → rest ≡ spelling c ++ more → MayStand k c → IsSeen (unnamed_workers k) (so_far.done ++ c ∷ []) new → IsSoFar k words more new
one_more k words rest more seen new c so_far is may seen_is = record {
  done = so_far.done ++ c ∷ [];
  written = so_far.written ∙ (ap (λ x. spellings so_far.done ++ x) is ∙ spellings_more so_far.done c more);
  allowed = each_more k so_far.done c so_far.allowed may;
  seen_is = seen_is;
}

-- ---- the options of words are one list

-- two spellings that begin one list of words
record IsSame (c d : Choice) (x y : List (List ℕ)) : Type 0 where
  choice : c ≡ d
  more : x ≡ y

-- the words of options begin with a dash, and no number does
no_dash : (n : ℕ) (word : List ℕ) → IsFromOneTo MOST_SIDE n → get_or word 0 0 ≡ 45 → word ≡ decimal n → ⊥
no_dash n word from dash e =
    let digit = first_decimal n (omega (arith, from.0)) (omega (arith, from.1)) in
    omega (arith, digit, ap (λ w. get_or w 0 0) e, dash)

one_spelling : (c d : Choice) (x y : List (List ℕ)) → IsInRange c → IsInRange d → spelling c ++ x ≡ spelling d ++ y → IsSame c d x y
one_spelling (choice.Events m) (choice.Events n) x y a b e =
    let digits : decimal m ≡ decimal n = cc in
    let same : m ≡ n = decimal_injective m n (omega (arith, a.1)) (omega (arith, b.1)) digits in
    record { choice = ap choice.Events same; more = cc }
one_spelling (choice.Events m) choice.Brief x y a b e = absurd (let q : codes "--events" ≡ codes "--brief" = cc in cc)
one_spelling (choice.Events m) (choice.Workers n) x y a b e = absurd (let q : codes "--events" ≡ codes "--workers" = cc in cc)
one_spelling (choice.Events m) (choice.Side n) x y a b e = absurd (no_dash n (codes "--events") b refl cc)
one_spelling choice.Brief (choice.Events n) x y a b e = absurd (let q : codes "--brief" ≡ codes "--events" = cc in cc)
one_spelling choice.Brief choice.Brief x y a b e = record { choice = refl; more = cc }
one_spelling choice.Brief (choice.Workers n) x y a b e = absurd (let q : codes "--brief" ≡ codes "--workers" = cc in cc)
one_spelling choice.Brief (choice.Side n) x y a b e = absurd (no_dash n (codes "--brief") b refl cc)
one_spelling (choice.Workers m) (choice.Events n) x y a b e = absurd (let q : codes "--workers" ≡ codes "--events" = cc in cc)
one_spelling (choice.Workers m) choice.Brief x y a b e = absurd (let q : codes "--workers" ≡ codes "--brief" = cc in cc)
one_spelling (choice.Workers m) (choice.Workers n) x y a b e =
    let digits : decimal m ≡ decimal n = cc in
    let same : m ≡ n = decimal_injective m n (omega (arith, a.1)) (omega (arith, b.1)) digits in
    record { choice = ap choice.Workers same; more = cc }
one_spelling (choice.Workers m) (choice.Side n) x y a b e = absurd (no_dash n (codes "--workers") b refl cc)
one_spelling (choice.Side m) (choice.Events n) x y a b e = absurd (no_dash m (codes "--events") a refl (sym cc))
one_spelling (choice.Side m) choice.Brief x y a b e = absurd (no_dash m (codes "--brief") a refl (sym cc))
one_spelling (choice.Side m) (choice.Workers n) x y a b e = absurd (no_dash m (codes "--workers") a refl (sym cc))
one_spelling (choice.Side m) (choice.Side n) x y a b e =
    let digits : decimal m ≡ decimal n = cc in
    let same : m ≡ n = decimal_injective m n (omega (arith, a.1)) (omega (arith, b.1)) digits in
    record { choice = ap choice.Side same; more = cc }

spelling_some : (c : Choice) (x : List (List ℕ)) → spelling c ++ x ≡ [] → ⊥
spelling_some (choice.Events n) x e = cc
spelling_some choice.Brief x e = cc
spelling_some (choice.Workers n) x e = cc
spelling_some (choice.Side n) x e = cc

-- the words behind an option are fewer
shorter_by : (c : Choice) (zs : List (List ℕ)) → length zs < length (spelling c ++ zs)
shorter_by (choice.Events n) zs = omega arith
shorter_by choice.Brief zs = omega arith
shorter_by (choice.Workers n) zs = omega arith
shorter_by (choice.Side n) zs = omega arith

pub shorter : {X : Type 0} (f : X → List ℕ) (c : Choice) (xs ys : List X) → map f xs ≡ spelling c ++ map f ys → length ys < length xs
shorter f c xs ys e =
    let by = shorter_by c (map f ys) in
    omega (arith, by, ap length e, length-map xs f, length-map ys f)

pub none_left : {X : Type 0} (f : X → List ℕ) (xs : List X) → length xs ≡ 0 → map f xs ≡ []
none_left f [] e = refl
none_left f (x ∷ xs) e = absurd (omega (arith, e))

pub some_left : {X : Type 0} (f : X → List ℕ) (xs : List X) → (length xs ≡ 0 → ⊥) → map f xs ≡ [] → ⊥
some_left f [] some e = some refl
some_left f (x ∷ xs) some e = cc

-- options that begin with those that were read
record IsSplit (k : Kind) (done cs : List Choice) (rest : List (List ℕ)) : Type 0 where
  more : List Choice
  is : cs ≡ done ++ more
  allowed : EachMayStand k more
  written : rest ≡ spellings more

splits : (k : Kind) (done cs : List Choice) (rest : List (List ℕ)) → EachMayStand k done → EachMayStand k cs → spellings cs ≡ spellings done ++ rest
    → IsSplit k done cs rest
splits w [] cs rest a b e = record { more = cs; is = refl; allowed = b; written = sym e }
splits w (d ∷ ds) [] rest a b e = absurd (spelling_some d (spellings ds ++ rest) (sym (e ∙ append_assoc (spelling d) (spellings ds) rest)))
splits w (d ∷ ds) (c ∷ cs) rest a b e =
    let same = one_spelling c d (spellings cs) (spellings ds ++ rest) b.0.1 a.0.1 (e ∙ append_assoc (spelling d) (spellings ds) rest) in
    let tail = splits w ds cs rest a.1 b.1 same.more in
    record {
      more = tail.more;
      is = ap (λ x. x ∷ cs) same.choice ∙ ap (λ x. d ∷ x) tail.is;
      allowed = tail.allowed;
      written = tail.written;
    }

-- ---- no options

-- words that begin with `--events` or `--workers` and no number in range behind it
pub no_events : (words rest : List (List ℕ)) → words ≡ codes "--events" ∷ rest
    → ((n : ℕ) (more : List (List ℕ)) → IsFromOneTo MOST_ENTRIES n → rest ≡ decimal n ∷ more → ⊥) → (c : Choice) (more : List (List ℕ)) → IsInRange c
    → words ≡ spelling c ++ more → ⊥
no_events words rest is none (choice.Events n) more range e =
    let both : codes "--events" ∷ rest ≡ codes "--events" ∷ (decimal n ∷ more) = sym is ∙ e in
    none n more range cc
no_events words rest is none choice.Brief more range e = let q : codes "--events" ≡ codes "--brief" =
    (let both : codes "--events" ∷ rest ≡ codes "--brief" ∷ more = sym is ∙ e in cc) in cc
no_events words rest is none (choice.Workers n) more range e = let q : codes "--events" ≡ codes "--workers" =
    (let both : codes "--events" ∷ rest ≡ codes "--workers" ∷ (decimal n ∷ more) = sym is ∙ e in cc) in cc
no_events words rest is none (choice.Side n) more range e =
    no_dash n (codes "--events") range refl (let both : codes "--events" ∷ rest ≡ decimal n ∷ more = sym is ∙ e in cc)

pub no_crew : (words rest : List (List ℕ)) → words ≡ codes "--workers" ∷ rest
    → ((n : ℕ) (more : List (List ℕ)) → IsFromOneTo MOST_WORKERS n → rest ≡ decimal n ∷ more → ⊥) → (c : Choice) (more : List (List ℕ)) → IsInRange c
    → words ≡ spelling c ++ more → ⊥
no_crew words rest is none (choice.Events n) more range e = let q : codes "--workers" ≡ codes "--events" =
    (let both : codes "--workers" ∷ rest ≡ codes "--events" ∷ (decimal n ∷ more) = sym is ∙ e in cc) in cc
no_crew words rest is none choice.Brief more range e = let q : codes "--workers" ≡ codes "--brief" =
    (let both : codes "--workers" ∷ rest ≡ codes "--brief" ∷ more = sym is ∙ e in cc) in cc
no_crew words rest is none (choice.Workers n) more range e =
    let both : codes "--workers" ∷ rest ≡ codes "--workers" ∷ (decimal n ∷ more) = sym is ∙ e in
    none n more range cc
no_crew words rest is none (choice.Side n) more range e =
    no_dash n (codes "--workers") range refl (let both : codes "--workers" ∷ rest ≡ decimal n ∷ more = sym is ∙ e in cc)

-- words that begin with no option's word and no number in range
pub no_side : (words : List (List ℕ)) → ((more : List (List ℕ)) → words ≡ codes "--brief" ∷ more → ⊥)
    → ((more : List (List ℕ)) → words ≡ codes "--events" ∷ more → ⊥) → ((more : List (List ℕ)) → words ≡ codes "--workers" ∷ more → ⊥)
    → ((n : ℕ) (more : List (List ℕ)) → IsFromOneTo MOST_SIDE n → words ≡ decimal n ∷ more → ⊥) → (c : Choice) (more : List (List ℕ)) → IsInRange c
    → words ≡ spelling c ++ more → ⊥
no_side words brief events workers side (choice.Events n) more range e = events (decimal n ∷ more) e
no_side words brief events workers side choice.Brief more range e = brief more e
no_side words brief events workers side (choice.Workers n) more range e = workers (decimal n ∷ more) e
no_side words brief events workers side (choice.Side n) more range e = side n more range e

-- words that begin with an option that the command does not have
pub no_option : (k : Kind) (words rest : List (List ℕ)) (d : Choice) → IsInRange d → words ≡ spelling d ++ rest → is_option_of k d ≡ false
    → (c : Choice) (more : List (List ℕ)) → MayStand k c → words ≡ spelling c ++ more → ⊥
no_option k words rest d range is other c more may e =
    let same = one_spelling c d more rest may.1 range (sym e ∙ is) in
    let both : true ≡ false = sym may.0 ∙ (ap (is_option_of k) same.choice ∙ other) in cc

no_first : (k : Kind) (rest : List (List ℕ)) (more : List Choice) → (rest ≡ [] → ⊥)
    → ((c : Choice) (more : List (List ℕ)) → MayStand k c → rest ≡ spelling c ++ more → ⊥) → EachMayStand k more → rest ≡ spellings more → ⊥
no_first k rest [] some none each e = some e
no_first k rest (c ∷ cs) some none each e = none c (spellings cs) each.0 e

-- the words that are left begin with no option
pub none_begins : (k : Kind) (words rest : List (List ℕ)) (seen : declared.Seen) → IsSoFar k words rest seen → (rest ≡ [] → ⊥)
    → ((c : Choice) (more : List (List ℕ)) → MayStand k c → rest ≡ spelling c ++ more → ⊥) → (events : ℕ) (brief : Bool) (crew : ℕ) (side : Option ℕ)
    → AreOptions k words events brief crew side → ⊥
none_begins k words rest seen so_far some none events brief crew side are =
    let s = splits k so_far.done are.choices rest so_far.allowed are.allowed (sym are.written ∙ so_far.written) in
    no_first k rest s.more some none s.allowed s.written

count_append : (p : Choice → Bool) (xs ys : List Choice) → count p (xs ++ ys) ≡ count p xs + count p ys
count_append p [] ys = omega arith
count_append p (x ∷ xs) ys = let tail = count_append p xs ys in omega (arith, tail)

-- an option that was chosen twice
twice : (done more : List Choice) (c : Choice) → IsAgain done c → IsOnce (done ++ c ∷ more) → ⊥
twice done more (choice.Events n) again once =
    let both : count is_events (done ++ choice.Events n ∷ more) ≡ count is_events done + (1 + count is_events more) =
    count_append is_events done (choice.Events n ∷ more) in omega (arith, once.events, both, again)
twice done more choice.Brief again once = let both : count is_brief (done ++ choice.Brief ∷ more) ≡ count is_brief done + (1 + count is_brief more) =
    count_append is_brief done (choice.Brief ∷ more) in omega (arith, once.brief, both, again)
twice done more (choice.Workers n) again once =
    let both : count is_workers (done ++ choice.Workers n ∷ more) ≡ count is_workers done + (1 + count is_workers more) =
    count_append is_workers done (choice.Workers n ∷ more) in omega (arith, once.workers, both, again)
twice done more (choice.Side n) again once = let both : count is_side (done ++ choice.Side n ∷ more) ≡ count is_side done + (1 + count is_side more) =
    count_append is_side done (choice.Side n ∷ more) in omega (arith, once.side, both, again)

again_first : (k : Kind) (done : List Choice) (rest more : List (List ℕ)) (c : Choice) (cs : List Choice) → rest ≡ spelling c ++ more → MayStand k c
    → IsAgain done c → EachMayStand k cs → rest ≡ spellings cs → IsOnce (done ++ cs) → ⊥
again_first k done rest more c [] is may again each e once = spelling_some c more (sym is ∙ e)
again_first k done rest more c (d ∷ ds) is may again each e once =
    let same = one_spelling c d more (spellings ds) may.1 each.0.1 (sym is ∙ e) in
    twice done ds c again (subst (λ x. IsOnce (done ++ x ∷ ds)) (sym same.choice) once)

pub doubled : (k : Kind) (words rest more : List (List ℕ)) (seen : declared.Seen) (c : Choice) (so_far : IsSoFar k words rest seen)
    → rest ≡ spelling c ++ more → MayStand k c → IsAgain so_far.done c → (events : ℕ) (brief : Bool) (crew : ℕ) (side : Option ℕ)
    → AreOptions k words events brief crew side → ⊥
doubled k words rest more seen c so_far is may again events brief crew side are =
    let s = splits k so_far.done are.choices rest so_far.allowed are.allowed (sym are.written ∙ so_far.written) in
    again_first k so_far.done rest more c s.more is may again s.allowed s.written (subst IsOnce s.is are.once)

-- ---- what was seen

bound_kept : (cs : List Choice) (c : Choice) → is_events c ≡ false → bound_of (cs ++ c ∷ []) ≡ bound_of cs
bound_kept [] (choice.Events n) e = absurd (cc)
bound_kept [] choice.Brief e = refl
bound_kept [] (choice.Workers n) e = refl
bound_kept [] (choice.Side n) e = refl
bound_kept (choice.Events n ∷ cs) c e = refl
bound_kept (choice.Brief ∷ cs) c e = bound_kept cs c e
bound_kept (choice.Workers n ∷ cs) c e = bound_kept cs c e
bound_kept (choice.Side n ∷ cs) c e = bound_kept cs c e

bound_new : (cs : List Choice) (n : ℕ) → count is_events cs ≡ 0 → bound_of (cs ++ choice.Events n ∷ []) ≡ n
bound_new [] n e = refl
bound_new (choice.Events m ∷ cs) n e = let one : 1 + count is_events cs ≡ 0 = e in absurd (omega (arith, one))
bound_new (choice.Brief ∷ cs) n e = bound_new cs n (let none : 0 + count is_events cs ≡ 0 = e in omega (arith, none))
bound_new (choice.Workers _ ∷ cs) n e = bound_new cs n (let none : 0 + count is_events cs ≡ 0 = e in omega (arith, none))
bound_new (choice.Side _ ∷ cs) n e = bound_new cs n (let none : 0 + count is_events cs ≡ 0 = e in omega (arith, none))

crew_kept : (unnamed : ℕ) (cs : List Choice) (c : Choice) → is_workers c ≡ false → workers_of unnamed (cs ++ c ∷ []) ≡ workers_of unnamed cs
crew_kept unnamed [] (choice.Events n) e = refl
crew_kept unnamed [] choice.Brief e = refl
crew_kept unnamed [] (choice.Workers n) e = absurd (cc)
crew_kept unnamed [] (choice.Side n) e = refl
crew_kept unnamed (choice.Events n ∷ cs) c e = crew_kept unnamed cs c e
crew_kept unnamed (choice.Brief ∷ cs) c e = crew_kept unnamed cs c e
crew_kept unnamed (choice.Workers n ∷ cs) c e = refl
crew_kept unnamed (choice.Side n ∷ cs) c e = crew_kept unnamed cs c e

crew_new : (unnamed : ℕ) (cs : List Choice) (n : ℕ) → count is_workers cs ≡ 0 → workers_of unnamed (cs ++ choice.Workers n ∷ []) ≡ n
crew_new unnamed [] n e = refl
crew_new unnamed (choice.Events _ ∷ cs) n e = crew_new unnamed cs n (let none : 0 + count is_workers cs ≡ 0 = e in omega (arith, none))
crew_new unnamed (choice.Brief ∷ cs) n e = crew_new unnamed cs n (let none : 0 + count is_workers cs ≡ 0 = e in omega (arith, none))
crew_new unnamed (choice.Workers m ∷ cs) n e = let one : 1 + count is_workers cs ≡ 0 = e in absurd (omega (arith, one))
crew_new unnamed (choice.Side _ ∷ cs) n e = crew_new unnamed cs n (let none : 0 + count is_workers cs ≡ 0 = e in omega (arith, none))

side_kept : (cs : List Choice) (c : Choice) → is_side c ≡ false → side_of (cs ++ c ∷ []) ≡ side_of cs
side_kept [] (choice.Events n) e = refl
side_kept [] choice.Brief e = refl
side_kept [] (choice.Workers n) e = refl
side_kept [] (choice.Side n) e = absurd (cc)
side_kept (choice.Events n ∷ cs) c e = side_kept cs c e
side_kept (choice.Brief ∷ cs) c e = side_kept cs c e
side_kept (choice.Workers n ∷ cs) c e = side_kept cs c e
side_kept (choice.Side n ∷ cs) c e = refl

side_new : (cs : List Choice) (n : ℕ) → count is_side cs ≡ 0 → side_of (cs ++ choice.Side n ∷ []) ≡ Some n
side_new [] n e = refl
side_new (choice.Events _ ∷ cs) n e = side_new cs n (let none : 0 + count is_side cs ≡ 0 = e in omega (arith, none))
side_new (choice.Brief ∷ cs) n e = side_new cs n (let none : 0 + count is_side cs ≡ 0 = e in omega (arith, none))
side_new (choice.Workers _ ∷ cs) n e = side_new cs n (let none : 0 + count is_side cs ≡ 0 = e in omega (arith, none))
side_new (choice.Side m ∷ cs) n e = let one : 1 + count is_side cs ≡ 0 = e in absurd (omega (arith, one))

none_more : (n : ℕ) → n + (0 + 0) ≡ n
none_more n = omega arith

pub seen_events : (unnamed : ℕ) (cs : List Choice) (seen new : declared.Seen) (n : ℕ) → IsSeen unnamed cs seen → seen.events ≡ false → new.bound ≡ n
    → new.events ≡ true → new.brief ≡ seen.brief → new.workers ≡ seen.workers → new.crew ≡ seen.crew → new.side ≡ seen.side
    → IsSeen unnamed (cs ++ choice.Events n ∷ []) new
seen_events unnamed cs seen new n s none b e f w k d =
    let zero : count is_events cs ≡ 0 = s.events ∙ ap times none in
    record {
      bound = b ∙ sym (bound_new cs n zero);
      events = count_append is_events cs (choice.Events n ∷ []) ∙ (ap (λ x. x + (1 + 0)) zero ∙ ap times (sym e));
      brief = count_append is_brief cs (choice.Events n ∷ []) ∙ (none_more _ ∙ s.brief ∙ ap times (sym f));
      workers = count_append is_workers cs (choice.Events n ∷ []) ∙ (none_more _ ∙ s.workers ∙ ap times (sym w));
      crew = k ∙ (s.crew ∙ sym (crew_kept unnamed cs (choice.Events n) refl));
      sides = count_append is_side cs (choice.Events n ∷ []) ∙ (none_more _ ∙ s.sides ∙ ap (λ x. times (is_some x)) (sym d));
      side = d ∙ (s.side ∙ sym (side_kept cs (choice.Events n) refl));
    }

pub seen_brief : (unnamed : ℕ) (cs : List Choice) (seen new : declared.Seen) → IsSeen unnamed cs seen → seen.brief ≡ false → new.bound ≡ seen.bound
    → new.events ≡ seen.events → new.brief ≡ true → new.workers ≡ seen.workers → new.crew ≡ seen.crew → new.side ≡ seen.side
    → IsSeen unnamed (cs ++ choice.Brief ∷ []) new
seen_brief unnamed cs seen new s none b e f w k d =
    let zero : count is_brief cs ≡ 0 = s.brief ∙ ap times none in
    record {
      bound = b ∙ (s.bound ∙ sym (bound_kept cs choice.Brief refl));
      events = count_append is_events cs (choice.Brief ∷ []) ∙ (none_more _ ∙ s.events ∙ ap times (sym e));
      brief = count_append is_brief cs (choice.Brief ∷ []) ∙ (ap (λ x. x + (1 + 0)) zero ∙ ap times (sym f));
      workers = count_append is_workers cs (choice.Brief ∷ []) ∙ (none_more _ ∙ s.workers ∙ ap times (sym w));
      crew = k ∙ (s.crew ∙ sym (crew_kept unnamed cs choice.Brief refl));
      sides = count_append is_side cs (choice.Brief ∷ []) ∙ (none_more _ ∙ s.sides ∙ ap (λ x. times (is_some x)) (sym d));
      side = d ∙ (s.side ∙ sym (side_kept cs choice.Brief refl));
    }

pub seen_workers : (unnamed : ℕ) (cs : List Choice) (seen new : declared.Seen) (n : ℕ) → IsSeen unnamed cs seen → seen.workers ≡ false
    → new.bound ≡ seen.bound → new.events ≡ seen.events → new.brief ≡ seen.brief → new.workers ≡ true → new.crew ≡ n → new.side ≡ seen.side
    → IsSeen unnamed (cs ++ choice.Workers n ∷ []) new
seen_workers unnamed cs seen new n s none b e f w k d =
    let zero : count is_workers cs ≡ 0 = s.workers ∙ ap times none in
    record {
      bound = b ∙ (s.bound ∙ sym (bound_kept cs (choice.Workers n) refl));
      events = count_append is_events cs (choice.Workers n ∷ []) ∙ (none_more _ ∙ s.events ∙ ap times (sym e));
      brief = count_append is_brief cs (choice.Workers n ∷ []) ∙ (none_more _ ∙ s.brief ∙ ap times (sym f));
      workers = count_append is_workers cs (choice.Workers n ∷ []) ∙ (ap (λ x. x + (1 + 0)) zero ∙ ap times (sym w));
      crew = k ∙ sym (crew_new unnamed cs n zero);
      sides = count_append is_side cs (choice.Workers n ∷ []) ∙ (none_more _ ∙ s.sides ∙ ap (λ x. times (is_some x)) (sym d));
      side = d ∙ (s.side ∙ sym (side_kept cs (choice.Workers n) refl));
    }

pub seen_side : (unnamed : ℕ) (cs : List Choice) (seen new : declared.Seen) (n : ℕ) → IsSeen unnamed cs seen → is_some seen.side ≡ false
    → new.bound ≡ seen.bound → new.events ≡ seen.events → new.brief ≡ seen.brief → new.workers ≡ seen.workers → new.crew ≡ seen.crew → new.side ≡ Some n
    → IsSeen unnamed (cs ++ choice.Side n ∷ []) new
seen_side unnamed cs seen new n s none b e f w k d =
    let zero : count is_side cs ≡ 0 = s.sides ∙ ap times none in
    record {
      bound = b ∙ (s.bound ∙ sym (bound_kept cs (choice.Side n) refl));
      events = count_append is_events cs (choice.Side n ∷ []) ∙ (none_more _ ∙ s.events ∙ ap times (sym e));
      brief = count_append is_brief cs (choice.Side n ∷ []) ∙ (none_more _ ∙ s.brief ∙ ap times (sym f));
      workers = count_append is_workers cs (choice.Side n ∷ []) ∙ (none_more _ ∙ s.workers ∙ ap times (sym w));
      crew = k ∙ (s.crew ∙ sym (crew_kept unnamed cs (choice.Side n) refl));
      sides = count_append is_side cs (choice.Side n ∷ []) ∙ (ap (λ x. x + (1 + 0)) zero ∙ ap (λ x. times (is_some x)) (sym d));
      side = d ∙ sym (side_new cs n zero);
    }

-- ---- all words were read

times_most : (b : Bool) (n : ℕ) → n ≡ times b → n ≤ 1
times_most true n e = omega (arith, e)
times_most false n e = omega (arith, e)

times_some : (b : Bool) (n : ℕ) → n ≡ times b → b ≡ nat_lt 0 n
times_some true n e = ap (nat_lt 0) (sym e)
times_some false n e = ap (nat_lt 0) (sym e)

pub all_read : (k : Kind) (words rest : List (List ℕ)) (seen : declared.Seen) → IsSoFar k words rest seen → rest ≡ []
    → AreOptions k words seen.bound seen.brief seen.crew seen.side
all_read k words rest seen so_far none =
    let s = so_far.seen_is in
    record {
      choices = so_far.done;
      written = so_far.written ∙ (ap (λ x. spellings so_far.done ++ x) none ∙ append-nil (spellings so_far.done));
      allowed = so_far.allowed;
      once =
          record {
            events = times_most seen.events _ s.events;
            brief = times_most seen.brief _ s.brief;
            workers = times_most seen.workers _ s.workers;
            side = times_most (is_some seen.side) _ s.sides;
          };
      bound = s.bound;
      brief_is = times_some seen.brief _ s.brief;
      workers_are = s.crew;
      side_is = s.side;
    }

-- ---- words say one thing

nothing_more : (more : List Choice) → [] ≡ spellings more → more ≡ []
nothing_more [] e = refl
nothing_more (c ∷ cs) e = absurd (spelling_some c (spellings cs) (sym e))

one_choices : (k : Kind) (cs ds : List Choice) → EachMayStand k cs → EachMayStand k ds → spellings cs ≡ spellings ds → ds ≡ cs
one_choices k cs ds a b e =
    let s = splits k cs ds [] a b (sym e ∙ sym (append-nil (spellings cs))) in
    s.is ∙ (ap (λ more. cs ++ more) (nothing_more s.more s.written) ∙ append-nil cs)

pub one_options : (k : Kind) (words : List (List ℕ)) (m n : ℕ) (b d : Bool) (i j : ℕ) (s t : Option ℕ) → AreOptions k words m b i s
    → AreOptions k words n d j t → (m ≡ n) × (b ≡ d) × (i ≡ j) × (s ≡ t)
one_options k words m n b d i j s t p q =
    let same = one_choices k p.choices q.choices p.allowed q.allowed (sym p.written ∙ q.written) in (
      p.bound ∙ (ap bound_of (sym same) ∙ sym q.bound),
      p.brief_is ∙ (ap is_brief_in (sym same) ∙ sym q.brief_is),
      p.workers_are ∙ (ap (workers_of (unnamed_workers k)) (sym same) ∙ sym q.workers_are),
      p.side_is ∙ (ap side_of (sym same) ∙ sym q.side_is),
    )
