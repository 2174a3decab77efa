mod Spaces
mod Spelling
mod Refusing
