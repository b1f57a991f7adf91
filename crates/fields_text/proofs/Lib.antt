pub mod theory
mod Base32Digits
mod Base64Groups
mod Base64Taken
mod Base64Words
mod HexDigits
mod HexPairs
mod HexTaken
mod HexTexts
mod HexWords
mod StringSteps
