-- The names of the parts.
use Rattle.std.specs.Prelude.{ℕ, List, codes}
use Rattle.bench_parts.specs.declared.part.Part.{Part}
use Rattle.bench_parts.specs.declared.part.Part.TheVariants as part

-- the word by which a part is asked for
abbrev pub name_of : Part → List ℕ
name_of part.Plain = codes "plain"
name_of part.Pool = codes "pool"
name_of part.Work = codes "work"
name_of part.Long = codes "long"
name_of part.Still = codes "still"
name_of part.Live = codes "live"
name_of part.Readers = codes "readers"
name_of part.Relabelled = codes "relabelled"
name_of part.Added = codes "added"
name_of part.Drawn = codes "drawn"
name_of part.Noted = codes "noted"
name_of part.Split = codes "split"
