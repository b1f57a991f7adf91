mod Cuts
mod DataRows
mod Faults
mod Items
mod Names
mod RowsDecided
mod Stops
mod Tilings
