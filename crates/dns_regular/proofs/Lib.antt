mod Origins
mod Names
mod Data
mod Items
mod Regular
mod Layouts
