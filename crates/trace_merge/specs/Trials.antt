-- Entries for the tests.
use Rattle.std.specs.Prelude.{ℕ, pos}
use Rattle.fut_base.specs.declared.record.Act.TheVariants as act
use Rattle.fut_base.specs.declared.record.Entry.{Entry}
use Rattle.fut_base.specs.declared.record.Value.TheVariants.{Int}

-- a task with this number ends
abbrev pub end_of : ℕ → Entry
end_of n = record { task = n; strand = n; act = act.End (Int (pos 0)) }
