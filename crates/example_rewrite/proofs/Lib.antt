mod Beginning
mod Checking
mod CutLemmas
mod Kept
mod NoFault
mod Reasons
mod Refusing
mod Sizes
