mod Printing
mod Reading
