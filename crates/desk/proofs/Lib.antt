pub mod OpenedForm
