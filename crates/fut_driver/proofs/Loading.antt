-- The text of the program that `load` runs.
use Rattle.std.proofs.Common.{◌≡◌, ℕ, ◌+◌, ◌*◌, ◌≤◌, Bool, List, [], ◌∷◌, ◌++◌, length, refl, sym, ap, ◌∙◌, subst, arith, decimal}
use Rattle.std.specs.Prelude.{Option}
use Rattle.std.specs.List.{concat}
use Rattle.std.proofs.lemmas.Fmt.{length-decimal-le_succ}
use Rattle.std.proofs.lemmas.List.{length-append}
use Rattle.std.proofs.lemmas.Nat.{mul-le}
use Rattle.command_words.specs.declared.words.Command.{Command}
use Rattle.command_words.specs.declared.words.Command.TheVariants as command
use Rattle.command_words.specs.Asking.{IsSide, IsBounded, most_bytes}
use Rattle.fut_driver.specs.Load.{cells_parts, corner_parts, top_parts, side_parts, inner_parts, main_parts, load_parts, load_text}
use Rattle.fut_driver.specs.Verdict.{IsTaken}

-- the text with so many cells
abbrev pub text_of : ℕ → ℕ → List ℕ
text_of places n = concat (cells_parts places ++ (corner_parts ++ (top_parts ++ (side_parts n ++ (inner_parts n ++ main_parts n)))))

abbrev total : List (List ℕ) → ℕ
total [] = 0
total (x ∷ xs) = length x + total xs

total_is : (xs : List (List ℕ)) → length (concat xs) ≡ total xs
total_is [] = refl
total_is (x ∷ xs) = let rest = total_is xs in let both = length-append x (concat xs) in omega (arith, rest, both)

-- the text is short
is_short : (n : ℕ) → IsSide n → length (load_text n) ≤ 1048576
is_short n side =
    let digits = length-decimal-le_succ n (omega (arith, side.1)) in
    let square : n * n ≤ 64 * 64 = mul-le n n 64 64 side.1 side.1 in
    let more = length-decimal-le_succ (n * n) (omega (arith, square)) in
    omega (arith, total_is (load_parts n), digits, more, square)

-- the text is what `load` works on
pub load_input : (c : Command) (side events workers : ℕ) → c ≡ command.Load side events workers → IsBounded c
    → (left : Option (List ℕ)) (ended : Bool) (bytes : List ℕ) → bytes ≡ load_text side → (length bytes ≤ most_bytes c) × IsTaken c left left ended bytes
load_input command.Check side events workers is bounded left ended bytes text = absurd (cc)
load_input command.Replay side events workers is bounded left ended bytes text = absurd (cc)
load_input (command.Run _ _ _) side events workers is bounded left ended bytes text = absurd (cc)
load_input (command.Load n _ _) side events workers is bounded left ended bytes text =
    let same : n ≡ side = cc in
    let mine : bytes ≡ load_text n = text ∙ ap load_text (sym same) in
    let short = is_short n bounded.0 in
    (omega (arith, short, ap length mine), (mine, refl))
