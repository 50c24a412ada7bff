-- How the steps of a part follow from those of its parts.
use Rattle.std.proofs.Common.{◌≡◌, ℕ, List, [], ◌∷◌, ◌++◌, length, refl, sym, ap, subst, ◌∙◌, append_assoc, Some}
use Rattle.run_record.specs.declared.cursor.Stop.{Stop}
use Rattle.run_record.specs.declared.cursor.Stop.TheVariants as stop
use Rattle.run_record.specs.Machine.{Symbol, Takes, Refuses, rule, run}
use Rattle.run_record.specs.Steps.{Steps, Stops, StopsBy, Read, ReadOn}
use Rattle.std.specs.Prelude.{Result, Ok, Err}
use Rattle.run_record.proofs.Numerals as numerals

-- one part after another
pub after : (p q : List Symbol) {xs m ys : List ℕ} → Steps p xs [] m → Steps q m [] ys → Steps (p ++ q) xs [] ys
after p q {xs = xs} h g = record { goes = λ k. ap (λ s. run s xs) (append_assoc p q k) ∙ h.goes (q ++ k) ∙ g.goes k }

first_by : (p q : List Symbol) (xs ys : List ℕ) (e : Stop) → StopsBy p xs ys e → StopsBy (p ++ q) xs ys e
first_by p q xs ys stop.Fault g = record { stops = λ k. ap (λ s. run s xs) (append_assoc p q k) ∙ g.stops (q ++ k) }
first_by p q xs ys stop.NoMemory g = tt

-- the first part stops
pub first_stops : (p q : List Symbol) {xs ys : List ℕ} {e : Stop} → Stops p xs ys e → Stops (p ++ q) xs ys e
first_stops p q {xs = xs} {ys = ys} {e = e} h = record { by = first_by p q xs ys e h.by }

second_by : (p q : List Symbol) (xs m ys : List ℕ) → Steps p xs [] m → (e : Stop) → StopsBy q m ys e → StopsBy (p ++ q) xs ys e
second_by p q xs m ys h stop.Fault g = record { stops = λ k. ap (λ s. run s xs) (append_assoc p q k) ∙ h.goes (q ++ k) ∙ g.stops k }
second_by p q xs m ys h stop.NoMemory g = tt

-- what comes after a part stops
pub second_stops : (p q : List Symbol) {xs m ys : List ℕ} {e : Stop} → Steps p xs [] m → Stops q m ys e → Stops (p ++ q) xs ys e
second_stops p q {xs = xs} {m = m} {ys = ys} {e = e} h g = record { by = second_by p q xs m ys h e g.by }

-- other symbols are due, and then those stop
onward_by : (p q : List Symbol) (xs m ys : List ℕ) → Steps p xs q m → (e : Stop) → StopsBy q m ys e → StopsBy p xs ys e
onward_by p q xs m ys h stop.Fault g = record { stops = λ k. h.goes k ∙ g.stops k }
onward_by p q xs m ys h stop.NoMemory g = tt

pub onward_stops : {p q : List Symbol} {xs m ys : List ℕ} {e : Stop} → Steps p xs q m → Stops q m ys e → Stops p xs ys e
onward_stops {p = p} {q = q} {xs = xs} {m = m} {ys = ys} {e = e} h g = record { by = onward_by p q xs m ys h e g.by }

pub onward : {p q s : List Symbol} {xs m ys : List ℕ} → Steps p xs q m → Steps q m s ys → Steps p xs s ys
onward h g = record { goes = λ k. h.goes k ∙ g.goes k }

pub stays : {p : List Symbol} {xs : List ℕ} → Steps p xs p xs
stays = record { goes = λ k. refl }

pub no_memory : {s : List Symbol} {xs ys : List ℕ} {e : Stop} → e ≡ stop.NoMemory → Stops s xs ys e
no_memory {s = s} {xs = xs} {ys = ys} h = record { by = subst (λ (q : Stop). StopsBy s xs ys q) (sym h) tt }

-- a symbol takes the byte in view
pub takes : (a : Symbol) (x : ℕ) (s : List Symbol) (xs ys : List ℕ) → rule a x ≡ Takes s → xs ≡ x ∷ ys → Steps (a ∷ []) xs s ys
takes a x s xs ys e front = record { goes = λ k. ap (λ q. run (a ∷ k) q) front ∙ numerals.takes a x s k ys e }

-- a symbol stops at the byte in view
pub halts : (a : Symbol) (x : ℕ) (xs ys : List ℕ) → rule a x ≡ Refuses → xs ≡ x ∷ ys → Stops (a ∷ []) xs xs stop.Fault
halts a x xs ys e front =
    record { by = record { stops = λ k. ap (λ q. run (a ∷ k) q) front ∙ numerals.stops a x k ys e ∙ ap (λ q. Some (length q)) (sym front) } }

-- none is left
pub short : (a : Symbol) (s : List Symbol) (xs : List ℕ) → xs ≡ [] → Stops (a ∷ s) xs xs stop.Fault
short a s xs none = record { by = record { stops = λ k. ap (λ q. run (a ∷ s ++ k) q) none ∙ ap (λ q. Some (length q)) (sym none) } }

-- a symbol took a byte, and what it left was read
pub read_first : {X T : Type 0} (a : Symbol) (x : ℕ) (s : List Symbol) (text : T → List ℕ) (Within : T → Type 0) (view : X → T) (xs m ys : List ℕ)
    (r : Result X Stop)
    → rule a x ≡ Takes s → xs ≡ x ∷ m → ReadOn (x ∷ []) s text Within view m ys r → Read (a ∷ []) text Within view xs ys r
read_first a x s text Within view xs m ys (Ok v) e front h = (onward (takes a x s xs m e front) h.0, front ∙ h.1, h.2)
read_first a x s text Within view xs m ys (Err f) e front h = onward_stops (takes a x s xs m e front) h
