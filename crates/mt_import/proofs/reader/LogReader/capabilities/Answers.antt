use Rattle.mt_import.proofs.Same.{few_in}
use Rattle.mt_import.proofs.reader.LogReader.capabilities.Goals as goal

pub returns-clause-few : goal.returns-clause-few
returns-clause-few c = few_in c.args.supplied.now c.args.self.now c.is_reader.ensures c.is_supplied.ensures c.value.result c.value.ensures
