-- A linear directory that is searched for `.` and `..`.
use Rattle.std.proofs.Common.{◌≡◌, ℕ, true, false, List, Option, None, Some, true≢false, refl, sym, ◌∙◌, subst}
use Rattle.std.specs.Option.{option_map}
use Rattle.std.specs.Prelude.{is_some}
use Rattle.gfs2_layout.specs.Holding.{Holding}
use Rattle.gfs2_layout.specs.Inode.{is_hashed_in, records_of}
use Rattle.gfs2_layout.specs.Records.{record_named}
use Rattle.glock_names.specs.declared.steps.Entry.{Entry}
use Rattle.linear_dirs.specs.Shown.{entry_of}
use Rattle.path_walks.specs.DirectoryShown.{Says, in_linear}

-- nothing was found
pub none_found : (x : Option Entry) → is_some x ≡ false → x ≡ None
none_found None none = refl
none_found (Some e) none = absurd (true≢false none)

pub some_found : (x : Option Entry) → is_some x ≡ true → (e : Entry) × (x ≡ Some e)
some_found None some = absurd (true≢false (sym some))
some_found (Some e) some = (e, refl)

-- what was found under the name's bytes
pub says_of : (h : Holding) (name dots : List ℕ) (x y : Option Entry) → is_hashed_in h ≡ false → name ≡ dots → x ≡ y → x ≡ option_map entry_of (record_named (records_of h) name) → Says h dots y
says_of h name dots x y plain same is found = subst (Says h dots) (sym found ∙ is) (subst (λ n. Says h n (option_map entry_of (record_named (records_of h) name))) same (in_linear plain))
