use Rattle.script_json.proofs.TextsReadBack.{text_reads_back}
use Rattle.script_json.proofs.laws.canonical_texts_read_back.Goals as goal

pub returns : goal.returns
returns c = text_reads_back
