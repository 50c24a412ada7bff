-- The run text as a machine with a stack, one byte at a time.
use Rattle.std.specs.Prelude.{ℕ, suc, zero, ◌+◌, ◌-◌, ◌*◌, ◌^◌, Bool, List, [], ◌∷◌, ◌++◌, map, length}
use Rattle.std.specs.Prelude.{Option, Some, None, cond, nat_eq, nat_lt, nat_le, ◌&&◌, codes, decimal}
use Rattle.fut_base.specs.declared.limits.TheConstants.{MOST_PROGRAM_BYTES, MOST_ENTRIES}
use Rattle.run_record.specs.declared.bounds.TheConstants.{MOST_ARGUMENTS, MOST_RACES}
use Rattle.run_record.specs.declared.digits.Kind.{Kind}
use Rattle.run_record.specs.declared.digits.Kind.TheVariants as kind

-- the greatest number of a kind
abbrev pub bound : Kind → ℕ
bound kind.Plain = 2 ^ 32 - 1
bound kind.Positive = 2 ^ 63 - 1
bound kind.Negative = 2 ^ 63
bound kind.Bytes = MOST_PROGRAM_BYTES
bound kind.Entries = MOST_ENTRIES
bound kind.Races = MOST_RACES

-- what is still due
pub data Symbol : Type 0 where
  -- this byte
  Byte : ℕ → Symbol
  -- any byte
  Any : Symbol
  -- a number; the count of bytes, entries or races, and behind its line these
  Number : Kind → Symbol
  -- more digits of a number that is so far this one, and what stands behind it
  Digits : Kind → ℕ → Symbol
  -- the digits behind a sign
  Unsigned : Symbol
  Signed : Symbol
  Datum : Symbol
  -- at most so many arguments, and the end of the line
  Arguments : ℕ → Symbol
  -- what the task did, to the end of the line
  Act' : Symbol
  -- the same behind an `s`
  ActOfS : Symbol
  -- how the run ended, to the end of the line
  Finish' : Symbol

-- what a symbol does at a byte: it takes it and leaves other symbols, or it was nothing, or it stops
pub data Answer : Type 0 where
  Takes : List Symbol → Answer
  Passes : Answer
  Refuses : Answer

-- these bytes
abbrev pub due : List ℕ → List Symbol
due bytes = map Byte bytes

-- a number behind these bytes
abbrev pub word_due : List ℕ → List Symbol
word_due word = due word ++ (Number kind.Plain ∷ [])

-- a number behind these bytes, to the end of the line
abbrev pub numbered_due : List ℕ → List Symbol
numbered_due word = word_due word ++ due (codes "\n")

-- the line of the entry at a place
abbrev pub entry_due : ℕ → List Symbol
entry_due place =
    due (decimal place) ++ (word_due (codes " t") ++ (word_due (codes " s") ++ (due (codes " ") ++ (Act' ∷ []))))

-- so many entry lines from a place on
abbrev pub entries_due : ℕ → ℕ → List Symbol
entries_due place zero = []
entries_due place (suc n) = entry_due place ++ entries_due (place + 1) n

-- what is due of a race
abbrev pub race_due : List Symbol
race_due = word_due (codes "race ") ++ (word_due (codes " ") ++ numbered_due (codes " "))

-- what is due of so many races
abbrev pub races_due : ℕ → List Symbol
races_due zero = []
races_due (suc n) = race_due ++ races_due n

-- so many bytes are due
abbrev pub bytes_due : ℕ → List Symbol
bytes_due zero = []
bytes_due (suc n) = Any ∷ bytes_due n

-- a byte that is a digit
abbrev pub is_digit : ℕ → Bool
is_digit x = nat_le 48 x && nat_le x 57

-- the byte is a further digit of a number of this kind that is so far this one
abbrev pub is_more : Kind → ℕ → ℕ → Bool
is_more k n x = nat_lt 0 n && (is_digit x && nat_le (n * 10 + (x - 48)) (bound k))

-- the byte is taken where the test passes
abbrev pub takes_if : Bool → List Symbol → Answer
takes_if b s = cond b (Takes s) Refuses

-- what a number does at a byte that is no further digit
abbrev pub behind_rule : Kind → ℕ → ℕ → Answer
behind_rule kind.Plain n x = Passes
behind_rule kind.Positive n x = Passes
behind_rule kind.Negative n x = Passes
behind_rule kind.Bytes n x = takes_if (nat_eq x 10) (bytes_due n)
behind_rule kind.Entries n x = takes_if (nat_eq x 10) (entries_due 0 n)
behind_rule kind.Races n x = takes_if (nat_eq x 10) (races_due n)

-- the rules of the symbols: what each makes of the next byte
abbrev pub digits_rule : Kind → ℕ → ℕ → Answer
digits_rule k n x = cond (is_more k n x) (Takes (Digits k (n * 10 + (x - 48)) ∷ [])) (behind_rule k n x)

abbrev pub number_rule : Kind → ℕ → Answer
number_rule k x = takes_if (is_digit x) (Digits k (x - 48) ∷ [])

abbrev pub unsigned_rule : ℕ → Answer
unsigned_rule x = takes_if (nat_le 49 x && nat_le x 57) (Digits kind.Negative (x - 48) ∷ [])

abbrev pub signed_rule : ℕ → Answer
signed_rule x = cond (nat_eq x 45) (Takes (Unsigned ∷ [])) (number_rule kind.Positive x)

abbrev pub datum_rule : ℕ → Answer
datum_rule x = cond (nat_eq x 102) (Takes (Number kind.Plain ∷ [])) (signed_rule x)

abbrev pub arguments_rule : ℕ → ℕ → Answer
arguments_rule left x = cond (nat_eq x 10) (Takes []) (takes_if (nat_eq x 32 && nat_lt 0 left) (Datum ∷ Arguments (left - 1) ∷ []))

-- a read or a write behind its first letter
abbrev pub access_due : List ℕ → List Symbol
access_due word = word_due word ++ (due (codes " ") ++ (Signed ∷ due (codes "\n")))

-- a spawn or a create behind its first letters
abbrev pub call_due : List ℕ → List Symbol
call_due word =
    word_due word ++ (word_due (codes " t") ++ (word_due (codes " s") ++ (word_due (codes " s") ++ (Arguments MOST_ARGUMENTS ∷ []))))

-- what is due of a get
abbrev pub get_due : List Symbol
get_due = word_due (codes "et f") ++ (due (codes " ") ++ (Datum ∷ numbered_due (codes " s")))

-- what is due of an end
abbrev pub end_due : List Symbol
end_due = due (codes "nd ") ++ (Datum ∷ due (codes "\n"))

abbrev pub act_rule : ℕ → Answer
act_rule x =
    cond (nat_eq x 114) (Takes (access_due (codes "ead ")))
    (cond (nat_eq x 119) (Takes (access_due (codes "rite ")))
    (cond (nat_eq x 115) (Takes (ActOfS ∷ []))
    (cond (nat_eq x 99) (Takes (call_due (codes "reate ")))
    (cond (nat_eq x 103) (Takes get_due)
    (takes_if (nat_eq x 101) end_due)))))

abbrev pub act_of_s_rule : ℕ → Answer
act_of_s_rule x = cond (nat_eq x 112) (Takes (call_due (codes "awn "))) (takes_if (nat_eq x 121) (numbered_due (codes "nc s")))

abbrev pub finish_rule : ℕ → Answer
finish_rule x =
    cond (nat_eq x 119) (Takes (due (codes "hole\n")))
    (cond (nat_eq x 101) (Takes (numbered_due (codes "vents ")))
    (cond (nat_eq x 108) (Takes (numbered_due (codes "ocal ")))
    (takes_if (nat_eq x 102) (numbered_due (codes "utures ")))))

-- what a symbol makes of the next byte
abbrev pub rule : Symbol → ℕ → Answer
rule (Byte b) x = takes_if (nat_eq x b) []
rule Any x = Takes []
rule (Number k) x = number_rule k x
rule (Digits k n) x = digits_rule k n x
rule Unsigned x = unsigned_rule x
rule Signed x = signed_rule x
rule Datum x = datum_rule x
rule (Arguments left) x = arguments_rule left x
rule Act' x = act_rule x
rule ActOfS x = act_of_s_rule x
rule Finish' x = finish_rule x

-- what is due after a byte, where the rest would be due after it so
abbrev pub by_answer : Answer → List Symbol → Option (List Symbol) → Option (List Symbol)
by_answer (Takes s) k passed = Some (s ++ k)
by_answer Passes k passed = passed
by_answer Refuses k passed = None

-- what is due after the next byte, where it is taken
abbrev pub next : List Symbol → ℕ → Option (List Symbol)
next [] x = None
next (a ∷ k) x = by_answer (rule a x) k (next k x)

-- goes on where something is due
abbrev pub go_on : Option (List Symbol) → (List Symbol → Option (List Symbol)) → Option (List Symbol)
go_on None f = None
go_on (Some s) f = f s

-- what is due after some bytes
abbrev pub walk : List Symbol → List ℕ → Option (List Symbol)
walk s [] = Some s
walk s (x ∷ xs) = go_on (next s x) (λ s. walk s xs)

-- The run on bytes: none where they are just what is due, or how many bytes are left where it stops.
abbrev pub at_end : List Symbol → Option ℕ
at_end [] = None
at_end (a ∷ k) = Some 0

-- the run stops with so many bytes left, or goes on
abbrev pub run_on : Option (List Symbol) → ℕ → (List Symbol → Option ℕ) → Option ℕ
run_on None left f = Some left
run_on (Some s) left f = f s

-- how many bytes are left where the run stops, or none where they are just what is due
abbrev pub run : List Symbol → List ℕ → Option ℕ
run s [] = at_end s
run s (x ∷ xs) = run_on (next s x) (suc (length xs)) (λ s. run s xs)

-- the program: how many bytes come, and the bytes
abbrev pub program_due : List Symbol
program_due = due (codes "forder 1\nprogram ") ++ (Number kind.Bytes ∷ [])

-- what is due before the entries
abbrev pub history_due : List Symbol
history_due = due (codes "\nentries ") ++ (Number kind.Entries ∷ [])

-- what is due before the races
abbrev pub report_due : List Symbol
report_due = due (codes "races ") ++ (Number kind.Races ∷ [])

-- what is due behind the races
abbrev pub last_due : List Symbol
last_due = due (codes "finish ") ++ (Finish' ∷ due (codes "end\n"))

-- a whole run text
abbrev pub all_due : List Symbol
all_due = program_due ++ (history_due ++ (report_due ++ last_due))
