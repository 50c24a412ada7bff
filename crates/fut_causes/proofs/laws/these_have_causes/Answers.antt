use Rattle.fut_causes.proofs.Covers as covers
use Rattle.fut_causes.proofs.laws.these_have_causes.Goals as goal

pub returns : goal.returns
returns c = covers.these_have_causes
