-- Damage that any call meets.
use Rattle.std.proofs.Common.{List}
use Rattle.file_tree.specs.declared.call.Call.TheVariants as calls
use Rattle.damage_laws.specs.Telling.{CallsTell, CallsTellExactly}
use Rattle.damage_laws.proofs.Inodes.{inside_told}
use Rattle.damage_laws.proofs.Calls.{makings_tell, path_told, removals_tell, writes_tell}
use Rattle.damage_laws.proofs.Moves.{moves_tell}

pub calls_tell : CallsTell
calls_tell v im (calls.Create p) node rule b read whole told = makings_tell v im (calls.Create p) rule b read whole told
calls_tell v im (calls.Mkdir p) node rule b read whole told = makings_tell v im (calls.Mkdir p) rule b read whole told
calls_tell v im (calls.Unlink p) node rule b read whole told = removals_tell v im (calls.Unlink p) rule b read whole told
calls_tell v im (calls.Rmdir p) node rule b read whole told = removals_tell v im (calls.Rmdir p) rule b read whole told
calls_tell v im (calls.Read p at n) node rule b read whole told = path_told v im (calls.Read p at n) rule b read whole.image told
calls_tell v im (calls.Dread p at n) node rule b read whole told = path_told v im (calls.Dread p at n) rule b read whole.image told
calls_tell v im (calls.Write p at bytes) node rule b read whole told = writes_tell v im (calls.Write p at bytes) rule b read whole told
calls_tell v im (calls.Truncate p n) node rule b read whole told = writes_tell v im (calls.Truncate p n) rule b read whole told
calls_tell v im (calls.Stat p) node rule b read whole told = path_told v im (calls.Stat p) rule b read whole.image told
calls_tell v im (calls.List p) node rule b read whole told = path_told v im (calls.List p) rule b read whole.image told
calls_tell v im (calls.Rename p q) node rule b read whole told = moves_tell v im (calls.Rename p q) node rule b read whole tt told
calls_tell v im calls.Sync node rule b read whole told = path_told v im calls.Sync rule b read whole.image told

pub calls_tell_exactly : CallsTellExactly
calls_tell_exactly v im call node rule b read whole inside told = inside_told v im call inside rule b (calls_tell v im call node rule b read whole told)
