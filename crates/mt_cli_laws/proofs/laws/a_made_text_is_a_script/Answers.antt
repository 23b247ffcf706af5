use Rattle.mt_cli_laws.proofs.Made.Dump.{made_accepted, made_dump}
use Rattle.mt_cli_laws.proofs.Made.Texts.{made_done, made_shows, made_without_offence}
use Rattle.mt_cli_laws.proofs.laws.a_made_text_is_a_script.Goals as goal

pub returns : goal.returns
returns c = record {
  offence = made_without_offence;
  dump = λ n. (made_dump, made_shows n, made_accepted);
  status = made_done;
}
