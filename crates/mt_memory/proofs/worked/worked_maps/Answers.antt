use Rattle.std.proofs.Common.{refl}
use Rattle.mt_memory.specs.Showing.{e820, told_in}
use Rattle.mt_memory.proofs.worked.worked_maps.Goals as goal

pub returns-clause-last : goal.returns-clause-last
unfolding e820 told_in
returns-clause-last c = refl

pub returns-clause-first : goal.returns-clause-first
unfolding e820 told_in
returns-clause-first c = refl

pub returns-clause-sole : goal.returns-clause-sole
unfolding e820 told_in
returns-clause-sole c = refl

pub returns-clause-third : goal.returns-clause-third
unfolding e820 told_in
returns-clause-third c = refl

pub returns-clause-over : goal.returns-clause-over
unfolding e820 told_in
returns-clause-over c = refl
