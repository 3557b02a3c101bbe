pub mod ListToy
pub mod SumToy
