pub mod FieldTable
mod Filled
mod NameTable
