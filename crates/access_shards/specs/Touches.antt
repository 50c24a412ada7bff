-- The accesses of one cell and their races, over any kinds of access. Lists of accesses called `past` have the newest one first.
use Rattle.std.specs.Prelude.{◌≡◌, ℕ, ◌<◌, ◌≤◌, Bool, true, false, List, [], ◌∷◌, ◌⊎◌}
use Rattle.fut_base.specs.Dag.{Among, AreJoinedBy, ReachesBy}

-- an access of a cell: its place in the history, the strand on which it stands, and its kind
pub record Touch (K : Type 0) : Type 0 where
  pub place : ℕ
  pub strand : ℕ
  pub kind : K

-- which kinds of access write, and which two kinds conflict
pub record Kinds (K : Type 0) : Type 0 where
  pub writes : K → Bool
  pub conflict : K → K → Bool

-- a write conflicts with every kind
pub record WritesConflict (K : Type 0) (kinds : Kinds K) : Type 0 where
  pub before : (w k : K) → kinds.writes w ≡ true → kinds.conflict w k ≡ true
  pub after : (w k : K) → kinds.writes w ≡ true → kinds.conflict k w ≡ true

-- each access has a greater place than those before it
abbrev pub IsRising : {K : Type 0} → List (Touch K) → Type 0
IsRising [] = Unit {0}
IsRising {K} (x ∷ past) = ((a : Touch K) → Among a past → a.place < x.place) × IsRising past

-- no path of these edges leads from an access to another strand of an earlier one
abbrev pub IsLate : {K : Type 0} → List (ℕ × ℕ) → List (Touch K) → Type 0
IsLate {K} es all =
    (a b : Touch K) → Among a all → Among b all → a.place < b.place → ReachesBy es b.strand a.strand → a.strand ≡ b.strand

-- two accesses, the earlier one first, that conflict and that no path joins
pub record AreRacing (K : Type 0) (kinds : Kinds K) (es : List (ℕ × ℕ)) (all : List (Touch K)) (a b : Touch K) : Type 0 where
  pub one : Among a all
  pub other : Among b all
  pub order : a.place < b.place
  pub conflict : kinds.conflict a.kind b.kind ≡ true
  pub apart : AreJoinedBy es a.strand b.strand → ⊥

abbrev pub HasNoRace : (K : Type 0) → Kinds K → List (ℕ × ℕ) → List (Touch K) → Type 0
HasNoRace K kinds es all = (a b : Touch K) → AreRacing K kinds es all a b → ⊥

-- the least place with an earlier partner, and its greatest partner
pub record IsFirstPair (K : Type 0) (kinds : Kinds K) (es : List (ℕ × ℕ)) (all : List (Touch K)) (first second : ℕ) : Type 0 where
  pub race : (a : Touch K) × (b : Touch K) × AreRacing K kinds es all a b × (a.place ≡ first) × (b.place ≡ second)
  pub least : (a b : Touch K) → AreRacing K kinds es all a b → second ≤ b.place
  pub greatest : (a b : Touch K) → AreRacing K kinds es all a b → b.place ≡ second → a.place ≤ first

abbrev pub HasNoWrite : (K : Type 0) → Kinds K → List (Touch K) → Type 0
HasNoWrite K kinds all = (t : Touch K) → Among t all → kinds.writes t.kind ≡ false

pub record IsLastWrite (K : Type 0) (kinds : Kinds K) (all : List (Touch K)) (w : Touch K) : Type 0 where
  pub there : Among w all
  pub write : kinds.writes w.kind ≡ true
  pub last : (t : Touch K) → Among t all → kinds.writes t.kind ≡ true → t.place ≤ w.place

-- an access of this kind, after all writes, that no later access of its kind is joined with
pub record IsLatest (K : Type 0) (kinds : Kinds K) (es : List (ℕ × ℕ)) (all : List (Touch K)) (kind : K) (t : Touch K) : Type 0 where
  pub there : Among t all
  pub kind_is : t.kind ≡ kind
  pub after : (w : Touch K) → Among w all → kinds.writes w.kind ≡ true → w.place < t.place
  pub latest : (u : Touch K) → Among u all → u.kind ≡ kind → t.place < u.place → AreJoinedBy es t.strand u.strand → ⊥

-- what has to be remembered: the last write, and of each kind the accesses after it that no later one is joined with
abbrev pub MustBeKept : (K : Type 0) → Kinds K → List (ℕ × ℕ) → List (Touch K) → Touch K → Type 0
MustBeKept K kinds es all t = IsLastWrite K kinds all t ⊎ IsLatest K kinds es all t.kind t

-- an access that conflicts with x and that no path joins with it
pub record IsPartner (K : Type 0) (kinds : Kinds K) (es : List (ℕ × ℕ)) (x t : Touch K) : Type 0 where
  pub conflict : kinds.conflict t.kind x.kind ≡ true
  pub apart : AreJoinedBy es t.strand x.strand → ⊥

-- the greatest partner of x, of those for which P holds
pub record IsGreatestPartner (K : Type 0) (kinds : Kinds K) (es : List (ℕ × ℕ)) (x : Touch K) (P : Touch K → Type 0) (t : Touch K) : Type 0 where
  pub there : P t
  pub partner : IsPartner K kinds es x t
  pub greatest : (b : Touch K) → P b → IsPartner K kinds es x b → b.place ≤ t.place
