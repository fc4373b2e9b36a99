-- Versions of blocks, and blocks that are live in a journal.
use Rattle.std.specs.Prelude.{◌≡◌, ℕ, Bool, true, false, List, Option, None, Some, refl}
use Rattle.std.specs.Coded.{Coded, code_by, coded×, coded_ℕ, coded_bool, coded_list, coded_option}
use Rattle.glock_names.specs.declared.LockName.{LockName}

-- a version of a block: the lock that covers it, whether it is content of a regular file, and its bytes
pub record Version : Type 0 where
  pub lock : LockName
  pub plain : Bool
  pub bytes : List ℕ

-- Where the content of a live block is: in its place on the disk; or still away from it, and this is what is to be put there; or on its way, in flight.
pub data Way : Type 0 where
  Home : Way
  Away : List ℕ → Way
  Flying : List ℕ → Way

-- a block that is live in the journal: the lock under which it was at its flush, the place where its transaction begins, and where its content is
pub record Entry : Type 0 where
  pub lock : LockName
  pub first : ℕ
  pub way : Way

-- ---- codes

abbrev pub lock_code : Coded LockName
lock_code = code_by (ℕ × ℕ) (coded× coded_ℕ coded_ℕ) (λ l. (l.kind, l.number)) (λ p. record { kind = p.0; number = p.1 }) (λ _. refl)

abbrev pub version_code : Coded Version
version_code = code_by (LockName × (Bool × List ℕ)) (coded× lock_code (coded× coded_bool (coded_list coded_ℕ)))
    (λ v. (v.lock, (v.plain, v.bytes))) (λ p. record { lock = p.0; plain = p.1.0; bytes = p.1.1 }) (λ _. refl)

abbrev pub way_code : Coded Way
way_code = code_by (Option (Bool × List ℕ)) (coded_option (coded× coded_bool (coded_list coded_ℕ))) parts whole back
  where
    parts : Way → Option (Bool × List ℕ)
    parts Home = None
    parts (Away bytes) = Some (false, bytes)
    parts (Flying bytes) = Some (true, bytes)

    whole : Option (Bool × List ℕ) → Way
    whole None = Home
    whole (Some (false, bytes)) = Away bytes
    whole (Some (true, bytes)) = Flying bytes

    back : (w : Way) → whole (parts w) ≡ w
    back Home = refl
    back (Away bytes) = refl
    back (Flying bytes) = refl

abbrev pub entry_code : Coded Entry
entry_code = code_by (LockName × (ℕ × Way)) (coded× lock_code (coded× coded_ℕ way_code))
    (λ e. (e.lock, (e.first, e.way))) (λ p. record { lock = p.0; first = p.1.0; way = p.1.1 }) (λ _. refl)
