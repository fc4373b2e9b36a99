-- States and modes.
use Rattle.std.proofs.Common.{◌≡◌, refl}
use Rattle.lock_laws.specs.Lock.{Un, Sh, Df, Ex}
use Rattle.dlm_modes.specs.declared.Mode.TheVariants as mode
use Rattle.lock_steps.specs.Modes.{GoAsModes, CoverAsModes, HaveModesOfTheirOwn}

pub go-as-modes : GoAsModes
go-as-modes Un Un = refl
go-as-modes Un Sh = refl
go-as-modes Un Df = refl
go-as-modes Un Ex = refl
go-as-modes Sh Un = refl
go-as-modes Sh Sh = refl
go-as-modes Sh Df = refl
go-as-modes Sh Ex = refl
go-as-modes Df Un = refl
go-as-modes Df Sh = refl
go-as-modes Df Df = refl
go-as-modes Df Ex = refl
go-as-modes Ex Un = refl
go-as-modes Ex Sh = refl
go-as-modes Ex Df = refl
go-as-modes Ex Ex = refl

pub cover-as-modes : CoverAsModes
cover-as-modes Un Un = refl
cover-as-modes Un Sh = refl
cover-as-modes Un Df = refl
cover-as-modes Un Ex = refl
cover-as-modes Sh Un = refl
cover-as-modes Sh Sh = refl
cover-as-modes Sh Df = refl
cover-as-modes Sh Ex = refl
cover-as-modes Df Un = refl
cover-as-modes Df Sh = refl
cover-as-modes Df Df = refl
cover-as-modes Df Ex = refl
cover-as-modes Ex Un = refl
cover-as-modes Ex Sh = refl
cover-as-modes Ex Df = refl
cover-as-modes Ex Ex = refl

pub modes-of-their-own : HaveModesOfTheirOwn
modes-of-their-own Un Un e = refl
modes-of-their-own Un Sh e = absurd (let f : mode.Nl ≡ mode.Pr = e in cc)
modes-of-their-own Un Df e = absurd (let f : mode.Nl ≡ mode.Cw = e in cc)
modes-of-their-own Un Ex e = absurd (let f : mode.Nl ≡ mode.Ex = e in cc)
modes-of-their-own Sh Un e = absurd (let f : mode.Pr ≡ mode.Nl = e in cc)
modes-of-their-own Sh Sh e = refl
modes-of-their-own Sh Df e = absurd (let f : mode.Pr ≡ mode.Cw = e in cc)
modes-of-their-own Sh Ex e = absurd (let f : mode.Pr ≡ mode.Ex = e in cc)
modes-of-their-own Df Un e = absurd (let f : mode.Cw ≡ mode.Nl = e in cc)
modes-of-their-own Df Sh e = absurd (let f : mode.Cw ≡ mode.Pr = e in cc)
modes-of-their-own Df Df e = refl
modes-of-their-own Df Ex e = absurd (let f : mode.Cw ≡ mode.Ex = e in cc)
modes-of-their-own Ex Un e = absurd (let f : mode.Ex ≡ mode.Nl = e in cc)
modes-of-their-own Ex Sh e = absurd (let f : mode.Ex ≡ mode.Pr = e in cc)
modes-of-their-own Ex Df e = absurd (let f : mode.Ex ≡ mode.Cw = e in cc)
modes-of-their-own Ex Ex e = refl
