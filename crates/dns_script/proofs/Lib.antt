mod Histories
mod PlannedOpts
mod PushedRecords
mod SetScripts
