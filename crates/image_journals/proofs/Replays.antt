-- An image and its replayed image have the same system files.
use Rattle.std.proofs.Common.{ℕ, inr, sym}
use Rattle.gfs2_layout.specs.Inode.{Fits}
use Rattle.image_model.specs.Claims.{every}
use Rattle.image_model.specs.Image.{Image}
use Rattle.image_model.specs.Owners.{Owners}
use Rattle.image_model.specs.Stands.{IsLaid, Layout}
use Rattle.image_model.specs.SystemFiles.{IsSystemFile}
use Rattle.image_model.proofs.SystemStays.{file_inode, replay_keeps, system_back}
use Rattle.image_model.proofs.UnbrokenInodes.{height_low, stuffed_fits, under_fits}
use Rattle.image_journals.specs.Laws.{ReplayedShareTheirSystem}

fits : (r : Image) (o : Owners) (m : Layout) → IsLaid r o m → (d : ℕ) → IsSystemFile r d → Fits (every r d)
fits r o m laid d file =
    let has = file_inode r d file in
    record { low = height_low r o m laid d has; stuffed = stuffed_fits r o m laid d has; under = under_fits r o m laid d has }

pub share : ReplayedShareTheirSystem
share im r o l m is laid =
    let same = replay_keeps im r l is in
    record { size = sym same.size; count = sym same.count; same = λ b of. sym (same.same b (system_back im r same (λ d here there. inr (fits r o m laid d there)) b of)) }
