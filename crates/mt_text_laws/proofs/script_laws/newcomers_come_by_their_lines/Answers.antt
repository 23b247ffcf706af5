use Rattle.mt_script.proofs.Coming.{newcomer_begins}
use Rattle.mt_text_laws.proofs.script_laws.newcomers_come_by_their_lines.Goals as goal

pub returns : goal.returns
returns c = newcomer_begins
