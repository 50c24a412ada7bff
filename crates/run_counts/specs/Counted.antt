-- What is counted of a run's jobs, and what holds of it.
use Rattle.std.specs.Prelude.{◌≡◌, ℕ, ◌+◌, ◌*◌, ◌^◌, ◌<◌, ◌≤◌}

-- what a worker was given, and what was taken from it
pub record Handed : Type 0 where
  pub given : ℕ
  pub taken : ℕ

-- what is in no hand: parts of the two ledgers of the hands, and their amounts
pub record Rest : Type 0 where
  pub parts : ℕ
  pub given : ℕ
  pub taken : ℕ

-- the totals of the three ledgers, the parts that are in no pace, and what is in no hand
pub record Booked : Type 0 where
  pub given : ℕ
  pub taken : ℕ
  pub paces : ℕ
  pub left : ℕ
  pub rest : Rest

-- how many events there were, how many tasks have neither ended nor wait, and how many wait; how many jobs went out and came
-- in in all; and what is in no hand
pub record Counted : Type 0 where
  pub events : ℕ
  pub running : ℕ
  pub waiting : ℕ
  pub given : ℕ
  pub taken : ℕ
  pub rest : Rest

-- what is counted fits together
pub record IsCounted (bound places events running waiting : ℕ) (b : Booked) : Type 0 where
  -- the tasks that have neither ended nor wait are one more than the jobs that went out, less those that came in
  pub jobs : running + b.taken ≡ 1 + b.given
  -- a job came in at each event, and whenever one went to wait
  pub events_took : events ≤ b.taken
  -- so jobs went to wait as often as is left: with the paces of those that don't wait, at most one more than twice the events
  pub waits_paced : b.taken + b.paces ≤ 1 + 3 * events + waiting
  -- the pace of each task that has not ended has one part
  pub places_left : b.left + running + waiting ≡ places
  -- each event makes one task at most
  pub few_tasks : running + waiting ≤ 1 + events
  pub few_events : events ≤ bound
  pub limits : (bound + 1 < 2 ^ 32) × (bound + 3 ≤ places)

-- the shares of a hand were cut off, with what it has
pub record HasGone (old : Booked) (hand : Handed) (new : Booked) : Type 0 where
  pub parts : new.rest.parts + 1 ≡ old.rest.parts
  pub rest_given : new.rest.given + hand.given ≡ old.rest.given
  pub rest_taken : new.rest.taken + hand.taken ≡ old.rest.taken
  pub totals : (new.given ≡ old.given) × (new.taken ≡ old.taken) × (new.paces ≡ old.paces) × (new.left ≡ old.left)

-- the shares of a hand came back, with what it has
abbrev pub HasCome : Booked → Handed → Booked → Type 0
HasCome old hand new = HasGone new hand old

-- a new hand was made
pub record HasCut (old new : Counted) : Type 0 where
  pub parts : new.rest.parts + 1 ≡ old.rest.parts
  pub rest : (new.rest.given ≡ old.rest.given) × (new.rest.taken ≡ old.rest.taken)
  pub tasks : (new.events ≡ old.events) × (new.running ≡ old.running) × (new.waiting ≡ old.waiting)
  pub totals : (new.given ≡ old.given) × (new.taken ≡ old.taken)

-- a hand came back, with what it was given and what was taken from it
pub record HasGathered (old : Counted) (hand : Handed) (new : Counted) : Type 0 where
  pub parts : new.rest.parts ≡ old.rest.parts + 1
  pub rest : (new.rest.given ≡ old.rest.given + hand.given) × (new.rest.taken ≡ old.rest.taken + hand.taken)
  pub tasks : (new.events ≡ old.events) × (new.running ≡ old.running) × (new.waiting ≡ old.waiting)
  pub totals : (new.given ≡ old.given) × (new.taken ≡ old.taken)
