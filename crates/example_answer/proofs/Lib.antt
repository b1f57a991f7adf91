mod Asking
mod Pushing
mod Starting
