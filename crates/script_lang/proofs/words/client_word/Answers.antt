use Rattle.std.proofs.Common.{sym, subst}
use Rattle.file_tree.specs.Names.{IsName}
use Rattle.script_lang.proofs.Names.{is_name}
use Rattle.script_lang.proofs.words.client_word.Goals as goal

pub new-requires : goal.new-requires
new-requires c = subst IsName (sym c.in_ok-bytes.ensures.items) (is_name c.args.word.now (sym c.if-names_client.ensures))
