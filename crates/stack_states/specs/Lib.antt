pub mod StackTable
