mod Agreeing
mod Fitting
