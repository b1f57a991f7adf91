use Rattle.json.proofs.Printed.Trees.{document-print}
use Rattle.json_print.proofs.laws.texts_read_back.Goals as goal

pub returns : goal.returns
returns c = document-print
