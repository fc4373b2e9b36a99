-- A block that any call needs lies out of the device.
use Rattle.std.proofs.Common.{◌⊎◌, inl, inr, List}
use Rattle.std.specs.Prelude.{false}
use Rattle.call_locks.specs.Wants.{wanted}
use Rattle.call_locks.specs.WantLaws.{path_of}
use Rattle.dinode_tree.specs.Reading.{IsInRange}
use Rattle.file_tree.specs.declared.call.Call.{Call}
use Rattle.file_tree.specs.declared.call.Call.TheVariants as calls
use Rattle.glock_names.specs.Views.{Seen}
use Rattle.glock_names.specs.declared.steps.Missing.{Missing}
use Rattle.image_model.specs.Image.{Image}
use Rattle.file_calls.specs.Reading as reading
use Rattle.damage_laws.specs.Telling.{HasAstray, HasAstrayOn, IsBrokenSource, NeedsTell, its_own, source_of}
use Rattle.damage_laws.proofs.Claimed.{shown}
use Rattle.damage_laws.proofs.MovesNeeded.{moves_out}
use Rattle.damage_laws.proofs.Needed.{all_way, directory_out, making_out, needed_out, removal_out, unread_out, writing_out}

-- what is so on the call's one path
own_source : (v : Seen) (im : Image) (call : Call) (m : Missing) → IsBrokenSource v im (source_of im.size m) ⊎ HasAstray v im (wanted call) (path_of call false) → IsBrokenSource v im (source_of im.size m) ⊎ HasAstrayOn v im call
own_source v im call m (inl source) = inl source
own_source v im call m (inr ahead) = inr (record { wants = wanted call; names = path_of call false; on = its_own; astray = ahead })

pub needs_tell : NeedsTell
needs_tell v im (calls.Create p) node m read whole needs out = own_source v im (calls.Create p) m (making_out v im read whole (calls.Create p) m needs out)
needs_tell v im (calls.Mkdir p) node m read whole needs out = own_source v im (calls.Mkdir p) m (making_out v im read whole (calls.Mkdir p) m needs out)
needs_tell v im (calls.Unlink p) node m read whole needs out = own_source v im (calls.Unlink p) m (removal_out v im read whole (calls.Unlink p) m needs out)
needs_tell v im (calls.Rmdir p) node m read whole needs out = own_source v im (calls.Rmdir p) m (removal_out v im read whole (calls.Rmdir p) m needs out)
needs_tell v im (calls.Read p at n) node m read whole (reading.on_path unread) out = own_source v im (calls.Read p at n) m (unread_out v im read whole (wanted (calls.Read p at n)) (path_of (calls.Read p at n) false) m unread out)
needs_tell v im (calls.Read p at n) node m read whole (reading.at_end a leads asked) out = own_source v im (calls.Read p at n) m (needed_out v im read whole (wanted (calls.Read p at n)) (path_of (calls.Read p at n) false) a m leads (λ h. IsInRange h at n) 0 (λ h shown. (asked h shown).1) out)
needs_tell v im (calls.Dread p at n) node m read whole (reading.on_path unread) out = own_source v im (calls.Dread p at n) m (unread_out v im read whole (wanted (calls.Dread p at n)) (path_of (calls.Dread p at n) false) m unread out)
needs_tell v im (calls.Dread p at n) node m read whole (reading.at_end a leads asked) out = own_source v im (calls.Dread p at n) m (needed_out v im read whole (wanted (calls.Dread p at n)) (path_of (calls.Dread p at n) false) a m leads (λ h. IsInRange h at n) 0 (λ h shown. (asked h shown).1) out)
needs_tell v im (calls.Write p at bytes) node m read whole needs out = own_source v im (calls.Write p at bytes) m (writing_out v im read whole (calls.Write p at bytes) m needs out)
needs_tell v im (calls.Truncate p n) node m read whole needs out = own_source v im (calls.Truncate p n) m (writing_out v im read whole (calls.Truncate p n) m needs out)
needs_tell v im (calls.Stat p) node m read whole (reading.on_path unread) out = own_source v im (calls.Stat p) m (unread_out v im read whole (wanted (calls.Stat p)) (path_of (calls.Stat p) false) m unread out)
needs_tell v im (calls.Stat p) node m read whole (reading.at_end a leads asked) out = own_source v im (calls.Stat p) m (directory_out v im read whole (wanted (calls.Stat p)) (path_of (calls.Stat p) false) a m leads asked.0 asked.2 (λ h seen. all_way v im read whole h m out (asked.1 h seen).2) out)
needs_tell v im (calls.List p) node m read whole (reading.on_path unread) out = own_source v im (calls.List p) m (unread_out v im read whole (wanted (calls.List p)) (path_of (calls.List p) false) m unread out)
needs_tell v im (calls.List p) node m read whole (reading.at_end a leads asked) out = own_source v im (calls.List p) m (directory_out v im read whole (wanted (calls.List p)) (path_of (calls.List p) false) a m leads asked.0 asked.2 (λ h seen. all_way v im read whole h m out (asked.1 h seen)) out)
needs_tell v im (calls.Rename p q) node m read whole needs out = moves_out v im p q read whole node m needs out
needs_tell v im calls.Sync node m read whole (reading.on_path unread) out = own_source v im calls.Sync m (unread_out v im read whole (wanted calls.Sync) (path_of calls.Sync false) m unread out)
needs_tell v im calls.Sync node m read whole (reading.at_end a leads asked) out = absurd asked
