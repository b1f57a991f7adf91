mod OctetWords
mod ReadLines
